-- The words of a line: what is read is spelled so, what is spelled so is read, and a word ends where it is spelled to end.
use Rattle.strm_script.proofs.Prelude.{◌≡◌, ◌≢◌, ℕ, suc, ◌+◌, ◌*◌, ◌<◌, ◌≤◌, Bool, true, false, not, eqb, leb, ◌&&◌, ◌||◌, List, [], ◌∷◌, ◌++◌}
use Rattle.strm_script.proofs.Prelude.{length, Option, None, Some, refl, arith, sym, ap, ◌∙◌, inl, inr, append_assoc, subst, cond-true, cond-false}
use Rattle.strm_script.proofs.Prelude.{ne_eqb, eq-eqb, leb-true, le-leb, lt-ltb, ltb-true, cases_Bool, and_parts, leb_tells, take-append-drop}
use Rattle.strm_script.specs.Prelude.{Dir, MasterToSlave, SlaveToMaster, Side, Master, Slave, Way, Place, Up, Down, Head, Driver, ModuleName}
use Rattle.strm_script.specs.Prelude.{FlushQueues, Mode, ByteStream, MessageKeep, MessageDiscard, Refuse, Data, Discard}
use Rattle.strm_types.specs.declared.names.Place.TheVariants as places
use Rattle.std.proofs.Common.{codes}
use Rattle.std.proofs.lemmas.List.{length-append}
use Rattle.std.proofs.Math.Seq.{take-append_seam, drop-append_seam}
use Rattle.std.specs.Prelude.{⊤, is_some}
use Rattle.std.specs.List.{AllByRecursion, list_all, position_or_len}
use Rattle.strm_types.specs.declared.names.ModuleName.TheVariants as modules
use Rattle.strm_types.specs.declared.events.FlushQueues.TheVariants as queues
use Rattle.strm_types.specs.declared.modes.Mode.TheVariants as modes
use Rattle.strm_script.specs.declared.commands.NamedPrio.{NamedPrio}
use Rattle.strm_script.specs.declared.commands.NamedPrio.TheVariants as prios
use Rattle.strm_script.specs.declared.commands.NamedWanted.{NamedWanted}
use Rattle.strm_script.specs.declared.commands.NamedWanted.TheVariants as wanteds
use Rattle.strm_script.specs.Script.{side_name, has_name, queue_name, direction_name, flags_name, flush_name, mode_name, has_word, module_name, digit_of, hex_of, is_letter, HasValue, IsNumber, IsNumberTo, IsPiece, Itself, Named, Coded, IsText, IsQuoted, IsPrio, IsWanted, IsPart, IsName, IsModule}
use Rattle.strm_script.specs.Named.{and_then, after, at_end, whole, is_whole, named}
use Rattle.strm_script.specs.Table.{Kind, AVerb, AnIoctl, ASide, ANumber, AShort, AByte, AText, APart, APrio, AWanted, AQueue, ADirection, AModule, SomeQueues, AMode, Flags, Said, verbs, ioctl_names, IsWord}
use Rattle.strm_script.specs.ScriptReading.{Front, is_space, within, number_in, number_to, text_in, quoted_len, token_len, token_in, split, prio_in, wanted_in, part_in, is_name, name_in, sides, module_names, flushed, mode_names, directions, flag_names, word_in}
use Rattle.strm_script.proofs.Readings.{position-here, position-later, quoted_ends, quoted_skips, quoted_escapes, quoted_more}
use Rattle.strm_script.proofs.Grammar.{and_then-found, option_map-found, after-found, number-found, number-only, text-found, text-only}
use Rattle.strm_script.proofs.QueueSpellings.{queue-found, queue-only}
use Rattle.strm_script.proofs.Fronts.{either-found, whole-found}

-- a word that a row has, and each row's word is the name of what it names
is_whole-found : (word text : List ℕ) (o : Option (List ℕ)) → whole word text text ≡ o → is_some o ≡ true → text ≡ word
is_whole-found word text None e h = absurd cc
is_whole-found word text (Some x) e h = (whole-found word text x text e).1

abbrev AreNames : {A : Type 0} → (A → List ℕ) → List (List ℕ × A) → Type 0
AreNames name [] = ⊤
AreNames name (row ∷ rows) = (row.0 ≡ name row.1) × AreNames name rows

named-found : {A : Type 0} (name : A → List ℕ) (rows : List (List ℕ × A)) (word : List ℕ) (x : A) → AreNames name rows → named rows word ≡ Some x → word ≡ name x
named-found name [] word x are h = absurd cc
named-found name (row ∷ rows) word x are h = elim (cases_Bool (is_whole row.0 word)) [
  | inl e ↦
      let some : Some row.1 ≡ Some x = sym (cond-true _ _ _ e) ∙ h in
      let same : row.1 ≡ x = cc in
      is_whole-found row.0 word (whole row.0 word word) refl e ∙ are.0 ∙ ap name same
  | inr e ↦ named-found name rows word x are.1 (sym (cond-false _ _ _ e) ∙ h)
]

-- each word of rows passes a test, if one that they name does
pub named-passes : {A : Type 0} (test : List ℕ → Bool) (rows : List (List ℕ × A)) (word : List ℕ) (x : A) → list_all (λ (row : List ℕ × A). test row.0) rows ≡ true
    → named rows word ≡ Some x → test word ≡ true
named-passes test [] word x all h = absurd cc
named-passes test (row ∷ rows) word x all h =
    let parts = and_parts _ _ all in
    elim (cases_Bool (is_whole row.0 word)) [
      | inl e ↦ ap test (is_whole-found row.0 word (whole row.0 word word) refl e) ∙ parts.0
      | inr e ↦ named-passes test rows word x parts.1 (sym (cond-false _ _ _ e) ∙ h)
    ]

-- and what rows name passes one, if all that they name does
named-holds : {A : Type 0} (test : A → Bool) (rows : List (List ℕ × A)) (word : List ℕ) (x : A)
    → list_all (λ (row : List ℕ × A). test row.1) rows ≡ true → named rows word ≡ Some x → test x ≡ true
named-holds test [] word x all h = absurd cc
named-holds test (row ∷ rows) word x all h =
    let parts = and_parts _ _ all in
    elim (cases_Bool (is_whole row.0 word)) [
      | inl e ↦
          let some : Some row.1 ≡ Some x = sym (cond-true _ _ _ e) ∙ h in
          let same : row.1 ≡ x = cc in
          subst (λ y. test y ≡ true) same parts.0
      | inr e ↦ named-holds test rows word x parts.1 (sym (cond-false _ _ _ e) ∙ h)
    ]

-- names of modules
letters-found : (line : List ℕ) → list_all is_letter line ≡ true → AllByRecursion (λ b. is_letter b ≡ true) line
letters-found [] h = tt
letters-found (b ∷ line) h = let parts = and_parts _ _ h in (parts.0, letters-found line parts.1)

letters-only : (line : List ℕ) → AllByRecursion (λ b. is_letter b ≡ true) line → list_all is_letter line ≡ true
letters-only [] h = refl
letters-only (b ∷ line) h = rw (h.0, letters-only line h.1) refl

is_name-found : (line : List ℕ) → is_name line ≡ true → IsName line
unfolding is_name
is_name-found line h =
    let parts = and_parts _ _ h in
    let more = and_parts _ _ parts.1 in
    record { some = ltb-true _ _ parts.0; most = leb-true _ _ more.0; letters = letters-found line more.1 }

is_name-only : (line : List ℕ) → IsName line → is_name line ≡ true
unfolding is_name
is_name-only line h = rw (lt-ltb 0 (length line) h.some, le-leb (length line) 8 h.most, letters-only line h.letters) refl

module-found : (word : List ℕ) (known : ModuleName) → named module_names word ≡ Some known → IsModule (Some known) word
module-found word known h =
    (named-found module_name module_names word known (refl, (refl, (refl, tt))) h, named-holds has_word module_names word known refl h)

module-only : (known : ModuleName) → has_word known ≡ true
    → (is_name (module_name known) ≡ true) × (named module_names (module_name known) ≡ Some known)
unfolding is_name
module-only modules.Ldterm has = (refl, refl)
module-only modules.Ptem has = (refl, refl)
module-only modules.Pckt has = (refl, refl)
module-only (modules.Own n) has = absurd cc

module-none : (line : List ℕ) → named module_names line ≡ None → (known : ModuleName) → has_word known ≡ true → line ≢ module_name known
module-none line h known has e =
    let no : None ≡ Some known = sym h ∙ ap (named module_names) e ∙ (module-only known has).1 in absurd cc

unknown-at : (line : List ℕ) (o : Option ModuleName) → named module_names line ≡ o
    → ((known : ModuleName) → has_word known ≡ true → line ≢ module_name known) → o ≡ None
unknown-at line None h other = refl
unknown-at line (Some known) h other = let found = module-found line known h in absurd (other known found.1 found.0)

named_so : (word : List ℕ) (o : Option ModuleName) → named module_names word ≡ o → IsName word → IsModule o word
named_so word None e is = record { is_name = is; other = module-none word e }
named_so word (Some known) e is = module-found word known e

name-found : (word : List ℕ) (o : Option ModuleName) → name_in word ≡ Some o → IsModule o word
name-found word o h = elim (cases_Bool (is_name word)) [
  | inl e ↦
      let some : Some (named module_names word) ≡ Some o = sym (cond-true _ _ _ e) ∙ h in
      let same : named module_names word ≡ o = cc in
      named_so word o same (is_name-found word e)
  | inr e ↦ let no : None ≡ Some o = sym (cond-false _ _ _ e) ∙ h in absurd cc
]

name-only : (o : Option ModuleName) (word : List ℕ) → IsModule o word → name_in word ≡ Some o
name-only (Some known) word h = let only = module-only known h.1 in rw (h.0, only.0, only.1) refl
name-only None word is = rw (is_name-only word is.is_name, unknown-at word (named module_names word) refl is.other) refl

-- numbers up to a limit
within-found : (limit m n : ℕ) → within limit m ≡ Some n → (m ≡ n) × (n ≤ limit)
within-found limit m n h = elim (leb_tells m limit) [
  | inl fits ↦
      let same : Some m ≡ Some n = sym (cond-true _ _ _ fits.0) ∙ h in
      let e : m ≡ n = cc in
      (e, subst (λ k. k ≤ limit) e fits.1)
  | inr over ↦ let none : None ≡ Some n = sym (cond-false _ _ _ over.0) ∙ h in absurd cc
]

number_to-found : (limit : ℕ) (digits : List ℕ) (n : ℕ) → number_to limit digits ≡ Some n → IsNumberTo limit n digits
unfolding number_to
number_to-found limit digits n h =
    let x = and_then-found (within limit) (number_in digits) n h in
    let w = within-found limit x.value n x.second in
    (subst (λ k. IsNumber digits k) w.0 (number-found digits x.value x.first), w.1)

number_to-only : (limit : ℕ) (digits : List ℕ) (n : ℕ) → IsNumberTo limit n digits → number_to limit digits ≡ Some n
unfolding number_to
number_to-only limit digits n (is, small) = ap (and_then (within limit)) (number-only digits n is) ∙ cond-true _ _ _ (le-leb n limit small)

-- texts and parts
quoted-found : (word text : List ℕ) → text_in word ≡ Some text → IsQuoted text word
quoted-found word text h = text-found word text h

quoted-only : (text word : List ℕ) → IsQuoted text word → text_in word ≡ Some text
quoted-only text word (spelled, spells, e) = ap text_in e ∙ text-only spelled text spells

part-found : (word : List ℕ) (part : Option (List ℕ)) → part_in word ≡ Some part → IsPart part word
unfolding part_in
part-found word part h = elim (either-found _ _ part h) [
  | inl a ↦ let w = whole-found (codes "-") None part word a in subst (λ p. IsPart p word) w.0 w.1
  | inr b ↦
      let text = option_map-found (λ text. Some text) (text_in word) part b in
      subst (λ p. IsPart p word) text.second (quoted-found word text.value text.first)
]

part-only : (part : Option (List ℕ)) (word : List ℕ) → IsPart part word → part_in word ≡ Some part
unfolding part_in
part-only None word h = rw (h) refl
part-only (Some text) word (spelled, spells, e) = rw (e, text-only spelled text spells) refl

digit-low : (b d : ℕ) → digit_of b ≡ Some d → (48 ≤ b) × (b ≤ 57)
unfolding digit_of
digit-low b d h = elim (cases_Bool (leb 48 b && leb b 57)) [
  | inl e ↦ let parts = and_parts _ _ e in (leb-true _ _ parts.0, leb-true _ _ parts.1)
  | inr e ↦ let none : None ≡ Some d = sym (cond-false _ _ _ e) ∙ h in absurd cc
]

-- a number begins with no letter
no_letter : {A : Type 0} (w : ℕ) (word digits : List ℕ) (n : ℕ) (x : A) → 57 < w → IsNumber digits n → whole (w ∷ word) x digits ≡ None
no_letter w word [] n x above h = let some = h.some in absurd (omega arith)
no_letter w word (b ∷ digits) n x above h =
    let low = digit-low b h.value.0 h.value.1 in
    ap (and_then (at_end x)) (cond-false (eqb w b) (after word digits) None (ne_eqb w b (λ e. omega (arith, e))))

-- priorities, and what is wanted
prio-found : (word : List ℕ) (prio : NamedPrio) → prio_in word ≡ Some prio → IsPrio prio word
unfolding prio_in
prio-found word prio h = elim (either-found _ _ prio h) [
  | inl a ↦ let w = whole-found (codes "hi") prios.High prio word a in subst (λ p. IsPrio p word) w.0 w.1
  | inr b ↦
      let n = option_map-found (λ n. prios.Band n) (number_in word) prio b in
      subst (λ p. IsPrio p word) n.second (number-found word n.value n.first)
]

prio-only : (prio : NamedPrio) (word : List ℕ) → IsPrio prio word → prio_in word ≡ Some prio
unfolding prio_in
prio-only prios.High word h = rw (h) refl
prio-only (prios.Band n) word h = rw (no_letter 104 (105 ∷ []) word n prios.High (omega arith) h, number-only word n h) refl

wanted-found : (word : List ℕ) (wanted : NamedWanted) → wanted_in word ≡ Some wanted → IsWanted wanted word
unfolding wanted_in
wanted-found word wanted h = elim (either-found _ _ wanted h) [
  | inl a ↦ let w = whole-found (codes "any") wanteds.Any wanted word a in subst (λ p. IsWanted p word) w.0 w.1
  | inr b ↦ elim (either-found _ _ wanted b) [
    | inl a ↦ let w = whole-found (codes "hi") wanteds.High wanted word a in subst (λ p. IsWanted p word) w.0 w.1
    | inr b ↦
        let n = option_map-found (λ n. wanteds.Band n) (number_in word) wanted b in
        subst (λ p. IsWanted p word) n.second (number-found word n.value n.first)
  ]
]

wanted-only : (wanted : NamedWanted) (word : List ℕ) → IsWanted wanted word → wanted_in word ≡ Some wanted
unfolding wanted_in
wanted-only wanteds.Any word h = rw (h) refl
wanted-only wanteds.High word h = rw (h) refl
wanted-only (wanteds.Band n) word h =
    rw (no_letter 97 (110 ∷ 121 ∷ []) word n wanteds.Any (omega arith) h, no_letter 104 (105 ∷ []) word n wanteds.High (omega arith) h, number-only word n h) refl

abbrev flags_of : Bool × Bool → List ℕ
flags_of flags = flags_name flags.0 flags.1

-- what is read of each kind is spelled so
pub word-found : (kind : Kind) (word : List ℕ) (x : Said kind) → word_in kind word ≡ Some x → IsWord kind x word
word-found AVerb word x h = h
word-found AnIoctl word x h = h
word-found ASide word x h = named-found side_name sides word x (refl, (refl, tt)) h
word-found ANumber word x h = number-found word x h
word-found AShort word x h = number_to-found 65535 word x h
word-found AByte word x h = number_to-found 255 word x h
word-found AText word x h = quoted-found word x h
word-found APart word x h = part-found word x h
word-found APrio word x h = prio-found word x h
word-found AWanted word x h = wanted-found word x h
word-found AQueue word x h = queue-found word x h
word-found ADirection word x h = named-found direction_name directions word x (refl, (refl, tt)) h
word-found AModule word x h = name-found word x h
word-found SomeQueues word x h = named-found flush_name flushed word x (refl, (refl, (refl, tt))) h
word-found AMode word x h = named-found mode_name mode_names word x (refl, (refl, (refl, (refl, (refl, (refl, tt)))))) h
word-found Flags word x h = named-found flags_of flag_names word x (refl, (refl, (refl, (refl, tt)))) h

-- a byte that is neither a space nor a quote
abbrev is_plain : ℕ → Bool
is_plain b = not (eqb b 32 || eqb b 34)

-- each name is read, and has neither a space nor a quote
abbrev IsPlainly : (kind : Kind) → Said kind → List ℕ → Type 0
IsPlainly kind x word = (word_in kind word ≡ Some x) × (list_all is_plain word ≡ true)

side-only : (side : Side) → IsPlainly ASide side (side_name side)
side-only Master = (refl, refl)
side-only Slave = (refl, refl)

direction-only : (direction : Dir) → IsPlainly ADirection direction (direction_name direction)
direction-only MasterToSlave = (refl, refl)
direction-only SlaveToMaster = (refl, refl)

queues-only : (what : FlushQueues) → IsPlainly SomeQueues what (flush_name what)
queues-only queues.Read = (refl, refl)
queues-only queues.Write = (refl, refl)
queues-only queues.Both = (refl, refl)

mode-only : (mode : Mode) → IsPlainly AMode mode (mode_name mode)
mode-only (modes.Read ByteStream) = (refl, refl)
mode-only (modes.Read MessageKeep) = (refl, refl)
mode-only (modes.Read MessageDiscard) = (refl, refl)
mode-only (modes.Control Refuse) = (refl, refl)
mode-only (modes.Control Data) = (refl, refl)
mode-only (modes.Control Discard) = (refl, refl)

flags-only : (ignores orphaned : Bool) → IsPlainly Flags (ignores, orphaned) (flags_name ignores orphaned)
flags-only false false = (refl, refl)
flags-only true false = (refl, refl)
flags-only false true = (refl, refl)
flags-only true true = (refl, refl)

digits-plain : (v n : ℕ) (digits : List ℕ) → HasValue v digits n → list_all is_plain digits ≡ true
digits-plain v n [] h = refl
digits-plain v n (b ∷ digits) h =
    let low = digit-low b h.0 h.1 in
    rw (ne_eqb b 32 (λ e. omega (arith, e)), ne_eqb b 34 (λ e. omega (arith, e)), digits-plain (10 * v + h.0) n digits h.2) refl

letters-plain : (word : List ℕ) → AllByRecursion (λ b. is_letter b ≡ true) word → list_all is_plain word ≡ true
letters-plain [] h = refl
letters-plain (b ∷ word) h =
    let low = leb-true 97 b (and_parts _ _ h.0).0 in
    rw (ne_eqb b 32 (λ e. omega (arith, e)), ne_eqb b 34 (λ e. omega (arith, e)), letters-plain word h.1) refl

known-plain : (known : ModuleName) → has_word known ≡ true → list_all is_plain (module_name known) ≡ true
known-plain modules.Ldterm has = refl
known-plain modules.Ptem has = refl
known-plain modules.Pckt has = refl
known-plain (modules.Own n) has = absurd cc

name-plain : (o : Option ModuleName) (word : List ℕ) → IsModule o word → list_all is_plain word ≡ true
name-plain (Some known) word h = ap (list_all is_plain) h.0 ∙ known-plain known h.1
name-plain None word is = letters-plain word is.is_name.letters

ldterm-plain : (side : Side) (way : Way)
    → list_all is_plain (queue_name (record { side = side; place = places.Module modules.Ldterm; way = way })) ≡ true
ldterm-plain Master Up = refl
ldterm-plain Master Down = refl
ldterm-plain Slave Up = refl
ldterm-plain Slave Down = refl

place-plain : (side : Side) (place : Place) (way : Way) → has_name place ≡ true
    → list_all is_plain (queue_name (record { side = side; place = place; way = way })) ≡ true
place-plain Master Head Up has = refl
place-plain Master Head Down has = refl
place-plain Master Driver Up has = refl
place-plain Master Driver Down has = refl
place-plain Slave Head Up has = refl
place-plain Slave Head Down has = refl
place-plain Slave Driver Up has = refl
place-plain Slave Driver Down has = refl
place-plain side (places.Module modules.Ldterm) way has = ldterm-plain side way
place-plain side (places.Module modules.Ptem) way has = absurd (cc)
place-plain side (places.Module modules.Pckt) way has = absurd (cc)
place-plain side (places.Module (modules.Own n)) way has = absurd (cc)

prio-plain : (prio : NamedPrio) (word : List ℕ) → IsPrio prio word → list_all is_plain word ≡ true
prio-plain prios.High word h = ap (list_all is_plain) h
prio-plain (prios.Band n) word h = digits-plain 0 n word h.value

wanted-plain : (wanted : NamedWanted) (word : List ℕ) → IsWanted wanted word → list_all is_plain word ≡ true
wanted-plain wanteds.Any word h = ap (list_all is_plain) h
wanted-plain wanteds.High word h = ap (list_all is_plain) h
wanted-plain (wanteds.Band n) word h = digits-plain 0 n word h.value

-- where a word ends: at the end of the line, or at a space
abbrev pub Edge : List ℕ → Type 0
Edge [] = ⊤
Edge (b ∷ more) = b ≡ 32

plain-other : (b c : ℕ) → is_plain b ≡ true → is_plain c ≡ false → (b ≡ c → ⊥)
plain-other b c h none e = let x : true ≡ false = sym h ∙ ap is_plain e ∙ none in absurd cc

spaces : (word more : List ℕ) → list_all is_plain word ≡ true → Edge more → position_or_len is_space (word ++ more) ≡ length word
spaces [] [] h e = refl
spaces [] (b ∷ more) h e = position-here is_space b more (eq-eqb b 32 e)
spaces (b ∷ word) more h e =
    let parts = and_parts _ _ h in
    position-later is_space b (word ++ more) (ne_eqb b 32 (plain-other b 32 parts.0 refl)) ∙ ap suc (spaces word more parts.1 e)

unquoted : (word more : List ℕ) → list_all is_plain word ≡ true → Edge more → after (codes "\"") (word ++ more) ≡ None
unquoted [] [] h e = refl
unquoted [] (b ∷ more) h e = cond-false (eqb 34 b) (Some more) None (ne_eqb 34 b (λ q. omega (arith, q, e)))
unquoted (b ∷ word) more h e =
    cond-false (eqb 34 b) (Some (word ++ more)) None (ne_eqb 34 b (λ q. plain-other b 34 (and_parts _ _ h).0 refl (sym q)))

plain-ends : (word more : List ℕ) → list_all is_plain word ≡ true → Edge more → token_len (word ++ more) ≡ length word
unfolding token_len
plain-ends word more h e =
    ap (λ (o : Option (List ℕ)). elim o [ None ↦ position_or_len is_space (word ++ more) | Some inside ↦ suc (quoted_len false inside) ]) (unquoted word more h e)
    ∙ spaces word more h e

-- a text in quotes ends at the first quote before which no backslash stands
hex-other : (b d c : ℕ) → hex_of b ≡ Some d → hex_of c ≡ None → (b ≡ c → ⊥)
hex-other b d c h none e = let no : None ≡ Some d = sym none ∙ ap hex_of (sym e) ∙ h in cc

no_quote : hex_of 34 ≡ None
unfolding hex_of
no_quote = refl

no_backslash : hex_of 92 ≡ None
unfolding hex_of
no_backslash = refl

quoted-piece : (piece rest : List ℕ) (b : ℕ) → IsPiece piece b → quoted_len false (piece ++ rest) ≡ length piece + quoted_len false rest
quoted-piece _ rest _ (Itself b q s n) = let one = quoted_skips b rest q s in omega (arith, one)
quoted-piece _ rest _ (Named c b e) = let one = quoted_escapes (c ∷ rest) in let two = quoted_more c rest in omega (arith, one, two)
quoted-piece _ rest _ (Coded h l high low x y) =
    let one = quoted_escapes (120 ∷ h ∷ l ∷ rest) in
    let two = quoted_more 120 (h ∷ l ∷ rest) in
    let three = quoted_skips h (l ∷ rest) (hex-other h high 34 x no_quote) (hex-other h high 92 x no_backslash) in
    let four = quoted_skips l rest (hex-other l low 34 y no_quote) (hex-other l low 92 y no_backslash) in
    omega (arith, one, two, three, four)

quoted-text : (spelled text rest : List ℕ) → IsText spelled text → quoted_len false (spelled ++ 34 ∷ rest) ≡ length spelled + 1
quoted-text spelled [] rest h = ap (λ k. quoted_len false (k ++ 34 ∷ rest)) h ∙ quoted_ends rest ∙ ap (λ k. length k + 1) (sym h)
quoted-text spelled (b ∷ text) rest (piece, more, p, e, is) =
    let one = quoted-piece piece (more ++ 34 ∷ rest) b p in
    let two = quoted-text more text rest is in
    let len = length-append piece more in
    let sum : quoted_len false (piece ++ (more ++ 34 ∷ rest)) ≡ length (piece ++ more) + 1 = omega (arith, one, two, len) in
    ap (λ k. quoted_len false (k ++ 34 ∷ rest)) e ∙ ap (quoted_len false) (append_assoc piece more (34 ∷ rest)) ∙ sum ∙ ap (λ k. length k + 1) (sym e)

quoted-ends : (text word more : List ℕ) → IsQuoted text word → token_len (word ++ more) ≡ length word
unfolding token_len
quoted-ends text word more (spelled, spells, e) =
    rw (e) (ap suc (ap (quoted_len false) (append_assoc spelled (34 ∷ []) more) ∙ quoted-text spelled text more spells ∙ sym (length-append spelled (34 ∷ []))))

part-ends : (part : Option (List ℕ)) (word more : List ℕ) → IsPart part word → Edge more → token_len (word ++ more) ≡ length word
part-ends None word more h e = plain-ends word more (ap (list_all is_plain) h) e
part-ends (Some text) word more is e = quoted-ends text word more is

-- what is spelled so is read, and ends where the word does
pub record Reads (kind : Kind) (x : Said kind) (word : List ℕ) : Type 0 where
  pub read : word_in kind word ≡ Some x
  pub ends : (more : List ℕ) → Edge more → token_len (word ++ more) ≡ length word

plain : (kind : Kind) (x : Said kind) (word : List ℕ) → word_in kind word ≡ Some x → list_all is_plain word ≡ true → Reads kind x word
plain kind x word read h = record { read = read; ends = λ more e. plain-ends word more h e }

plainly : (kind : Kind) (x : Said kind) (name word : List ℕ) → word ≡ name → IsPlainly kind x name → Reads kind x word
plainly kind x name word e is = let h = subst (IsPlainly kind x) (sym e) is in plain kind x word h.0 h.1

pub word-only : (kind : Kind) (x : Said kind) (word : List ℕ) → IsWord kind x word → Reads kind x word
word-only AVerb verb word is = plain AVerb verb word is (named-passes (list_all is_plain) verbs word verb refl is)
word-only AnIoctl name word is = plain AnIoctl name word is (named-passes (list_all is_plain) ioctl_names word name refl is)
word-only ASide side word e = plainly ASide side (side_name side) word e (side-only side)
word-only ANumber n word is = plain ANumber n word (number-only word n is) (digits-plain 0 n word is.value)
word-only AShort n word is = plain AShort n word (number_to-only 65535 word n is) (digits-plain 0 n word is.0.value)
word-only AByte n word is = plain AByte n word (number_to-only 255 word n is) (digits-plain 0 n word is.0.value)
word-only AText text word is = record { read = quoted-only text word is; ends = λ more e. quoted-ends text word more is }
word-only APart part word is = record { read = part-only part word is; ends = λ more e. part-ends part word more is e }
word-only APrio prio word is = plain APrio prio word (prio-only prio word is) (prio-plain prio word is)
word-only AWanted wanted word is = plain AWanted wanted word (wanted-only wanted word is) (wanted-plain wanted word is)
word-only AQueue name word is = plainly AQueue name (queue_name name) word is.0 (queue-only name is.1, place-plain name.side name.place name.way is.1)
word-only ADirection direction word e = plainly ADirection direction (direction_name direction) word e (direction-only direction)
word-only AModule known word is = plain AModule known word (name-only known word is) (name-plain known word is)
word-only SomeQueues what word e = plainly SomeQueues what (flush_name what) word e (queues-only what)
word-only AMode mode word e = plainly AMode mode (mode_name mode) word e (mode-only mode)
word-only Flags flags word e = plainly Flags flags (flags_name flags.0 flags.1) word e (flags-only flags.0 flags.1)

-- a word behind a space
pub token-found : (rest : List ℕ) (token : Front (List ℕ)) → token_in rest ≡ Some token → rest ≡ 32 ∷ (token.value ++ token.rest)
unfolding token_in
token-found rest token h =
    let line = option_map-found split (after (codes " ") rest) token h in
    after-found (codes " ") rest line.value line.first
    ∙ ap (λ k. 32 ∷ k) (sym (take-append-drop (token_len line.value) line.value) ∙ ap (λ (t : Front (List ℕ)). t.value ++ t.rest) line.second)

pub split-only : (word more : List ℕ) → token_len (word ++ more) ≡ length word → split (word ++ more) ≡ record { value = word; rest = more }
split-only word more ends = rw (ends, take-append_seam word more, drop-append_seam word more) refl

pub token-only : (word more : List ℕ) → token_len (word ++ more) ≡ length word → token_in (32 ∷ (word ++ more)) ≡ Some (record { value = word; rest = more })
unfolding token_in
token-only word more ends = ap Some (split-only word more ends)
