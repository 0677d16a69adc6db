-- What a form reads is spelled so, and what is spelled so is read: over all rows at once.
use Rattle.strm_script.proofs.Prelude.{◌≡◌, ℕ, ◌≤◌, Bool, true, false, not, ltb, eqb, List, [], ◌∷◌, ◌++◌, length, Option, None, Some, option_map}
use Rattle.strm_script.proofs.Prelude.{refl, sym, ap, ◌∙◌, inl, inr, append-nil, subst, cond-true, cond-false, le-ltb, cases_Bool, take-append-drop}
use Rattle.strm_script.specs.Script.{Command, is_silent}
use Rattle.strm_script.specs.Named.{and_then, at_end, named}
use Rattle.strm_script.specs.Table.{Kind, AVerb, Said, IsWord, Form, Ends, MayEnd, Last, Then, IsForm, verbs, form_of, IsSpelled}
use Rattle.strm_script.specs.ScriptReading.{Silent, Malformed, Spoken, Front, token_len, token_in, last_in, split, word_in, word_at, form_in, command_in, spoken, reading}
use Rattle.strm_script.proofs.Grammar.{and_then-found, option_map-found}
use Rattle.strm_script.proofs.Fronts.{at_end-found}
use Rattle.strm_script.proofs.WordSpellings.{named-passes, Edge, word-found, word-only, token-found, token-only, split-only}

-- the last word
last-found : (rest word : List ℕ) → last_in rest ≡ Some word → rest ≡ 32 ∷ word
unfolding last_in
last-found rest word h =
    let token = and_then-found (λ (token : Front (List ℕ)). at_end token.value token.rest) (token_in rest) word h in
    let end = at_end-found token.value.value word token.value.rest token.second in
    token-found rest token.value token.first ∙ ap (λ k. 32 ∷ k) (ap (λ k. token.value.value ++ k) end.1 ∙ append-nil token.value.value ∙ end.0)

last-only : (word : List ℕ) → token_len (word ++ []) ≡ length word → last_in (32 ∷ word) ≡ Some word
unfolding last_in
last-only word ends =
    ap (λ k. and_then (λ (token : Front (List ℕ)). at_end token.value token.rest) (token_in (32 ∷ k))) (sym (append-nil word))
    ∙ ap (and_then (λ (token : Front (List ℕ)). at_end token.value token.rest)) (token-only word [] ends)

-- a word that others follow
record Stands (kind : Kind) (rest : List ℕ) (found : Front (Said kind)) : Type 0 where
  word : List ℕ
  word_is : IsWord kind found.value word
  rest_is : rest ≡ 32 ∷ (word ++ found.rest)

word_at-found : (kind : Kind) (rest : List ℕ) (found : Front (Said kind)) → word_at kind rest ≡ Some found → Stands kind rest found
word_at-found kind rest found h =
    let token = and_then-found (λ (token : Front (List ℕ)). option_map (λ x. record { value = x; rest = token.rest }) (word_in kind token.value)) (token_in rest) found h in
    let x = option_map-found (λ x. record { value = x; rest = token.value.rest }) (word_in kind token.value.value) found token.second in
    subst (Stands kind rest) x.second (record {
      word = token.value.value;
      word_is = word-found kind token.value.value x.value x.first;
      rest_is = token-found rest token.value token.first;
    })

word_at-only : (kind : Kind) (x : Said kind) (word more : List ℕ) → IsWord kind x word → Edge more
    → word_at kind (32 ∷ (word ++ more)) ≡ Some (record { value = x; rest = more })
word_at-only kind x word more is edge =
    let reads = word-only kind x word is in
    ap (and_then (λ (token : Front (List ℕ)). option_map (λ x. record { value = x; rest = token.rest }) (word_in kind token.value))) (token-only word more (reads.ends more edge))
    ∙ ap (option_map (λ x. record { value = x; rest = more })) reads.read

-- what is read by a form is spelled by it
form-found : (form : Form) (command : Command) (rest : List ℕ) → form_in form rest ≡ Some command → IsForm form command rest
form-found (Ends made) command rest h = at_end-found made command rest h
form-found (MayEnd made form) command [] h = cc
form-found (MayEnd made form) command (b ∷ rest) h = form-found form command (b ∷ rest) h
form-found (Last kind made) command rest h =
    let x = option_map-found made (and_then (word_in kind) (last_in rest)) command h in
    let word = and_then-found (word_in kind) (last_in rest) x.value x.first in
    (x.value, word.value, word-found kind word.value x.value word.second, x.second, last-found rest word.value word.first)
form-found (Then kind form) command rest h =
    let front = and_then-found (λ (found : Front (Said kind)). form_in (form found.value) found.rest) (word_at kind rest) command h in
    let stands = word_at-found kind rest front.value front.first in
    (front.value.value, stands.word, front.value.rest, stands.word_is, form-found (form front.value.value) command front.value.rest front.second, stands.rest_is)

-- what stands behind a word begins with a space, if anything does
form-edge : (form : Form) (command : Command) (rest : List ℕ) → IsForm form command rest → Edge rest
form-edge (Ends made) command rest is = subst Edge (sym is.1) tt
form-edge (MayEnd made form) command [] is = tt
form-edge (MayEnd made form) command (b ∷ rest) is = form-edge form command (b ∷ rest) is
form-edge (Last kind made) command rest (x, word, is, same, e) = subst Edge (sym e) refl
form-edge (Then kind form) command rest (x, word, more, is, inside, e) = subst Edge (sym e) refl

-- what is spelled by a form is read by it
form-only : (form : Form) (command : Command) (rest : List ℕ) → IsForm form command rest → form_in form rest ≡ Some command
form-only (Ends made) command rest is = rw (is.1, is.0) refl
form-only (MayEnd made form) command [] is = ap Some is
form-only (MayEnd made form) command (b ∷ rest) is = form-only form command (b ∷ rest) is
form-only (Last kind made) command rest (x, word, is, same, e) =
    let reads = word-only kind x word is in
    ap (form_in (Last kind made)) e
    ∙ ap (λ o. option_map made (and_then (word_in kind) o)) (last-only word (reads.ends [] tt))
    ∙ ap (option_map made) reads.read
    ∙ ap Some same
form-only (Then kind form) command rest (x, word, more, is, inside, e) =
    ap (form_in (Then kind form)) e
    ∙ ap (and_then (λ (found : Front (Said kind)). form_in (form found.value) found.rest)) (word_at-only kind x word more is (form-edge (form x) command more inside))
    ∙ form-only (form x) command more inside

-- a word of the table begins a line that isn't silent
abbrev speaks : List ℕ → Bool
speaks word = not (is_silent word)

speaking : (word rest : List ℕ) → speaks word ≡ true → is_silent (word ++ rest) ≡ false
speaking [] rest h = absurd cc
speaking (b ∷ word) rest h = elim (cases_Bool (eqb b 35)) [
  | inl e ↦ let no : false ≡ true = sym (ap not e) ∙ h in absurd cc
  | inr e ↦ e
]

-- a line
command-found : (line : List ℕ) (command : Command) → command_in line ≡ Some command → IsSpelled command line
unfolding command_in
command-found line command h =
    let verb = and_then-found (λ verb. form_in (form_of verb) (split line).rest) (named verbs (split line).value) command h in (
      verb.value,
      (split line).value,
      (split line).rest,
      verb.first,
      form-found (form_of verb.value) command (split line).rest verb.second,
      sym (take-append-drop (token_len line) line),
    )

command-only : (command : Command) (line : List ℕ) → IsSpelled command line → (command_in line ≡ Some command) × (is_silent line ≡ false)
unfolding command_in
command-only command line (verb, word, rest, is, inside, e) =
    let ends = (word-only AVerb verb word is).ends rest (form-edge (form_of verb) command rest inside) in (
      ap (λ (parts : Front (List ℕ)). and_then (λ verb. form_in (form_of verb) parts.rest) (named verbs parts.value)) (ap split e ∙ split-only word rest ends)
          ∙ ap (and_then (λ verb. form_in (form_of verb) rest)) is
          ∙ form-only (form_of verb) command rest inside,
      ap is_silent e ∙ speaking word rest (named-passes speaks verbs word verb refl is),
    )

pub reading-only : (command : Command) (line : List ℕ) → IsSpelled command line → length line ≤ 4096 → reading line ≡ Spoken command
unfolding reading
reading-only command line h short =
    let read = command-only command line h in
    rw (le-ltb 4096 (length line) short, read.1, read.0) refl

spoken-found : (o : Option Command) (command : Command) → spoken o ≡ Spoken command → o ≡ Some command
spoken-found None command h = absurd cc
spoken-found (Some c) command h = cc

pub reading-found : (line : List ℕ) (command : Command) → reading line ≡ Spoken command → IsSpelled command line
unfolding reading
reading-found line command h = elim (cases_Bool (ltb 4096 (length line))) [
  | inl long ↦ let no : Malformed ≡ Spoken command = sym (cond-true _ _ _ long) ∙ h in absurd cc
  | inr short ↦ elim (cases_Bool (is_silent line)) [
    | inl silent ↦ let no : Silent ≡ Spoken command = sym (cond-true _ _ _ silent) ∙ sym (cond-false _ _ _ short) ∙ h in absurd cc
    | inr said ↦ command-found line command (spoken-found (command_in line) command (sym (cond-false _ _ _ said) ∙ sym (cond-false _ _ _ short) ∙ h))
  ]
]
