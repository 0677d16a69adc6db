-- Texts as they are printed: a run of bytes that are printed as they are.
use Rattle.std.proofs.Common.{◌≡◌, ℕ, zero, suc, ◌+◌, ◌<◌, ◌≤◌, false, eqb, ltb, ◌||◌, List, [], ◌∷◌, ◌++◌, take, drop, refl, arith, sym, ap, ◌∙◌, subst, inl, inr}
use Rattle.std.proofs.lemmas.Bool.{ne_eqb, le-leb, ltb-false, cases_Bool}
use Rattle.std.proofs.lemmas.List.Concat.{flat_map-append}
use Rattle.std.proofs.Math.Seq.{take-add}
use Rattle.std.specs.List.{flat_map, position_or_len}
use Rattle.std.specs.Str.{IsAscii}
use Rattle.strm_script.specs.ScriptAnswers.{is_escaped, printed}
use Rattle.strm_script.proofs.Readings.{or_none, position-here, position-later}

-- a byte that needs no escape
pub record IsPrintable (b : ℕ) : Type 0 where
  pub same : printed b ≡ b ∷ []
  pub ascii : b < 128

pub printable : (b : ℕ) → is_escaped b ≡ false → IsPrintable b
printable b e =
    let quote = or_none (eqb b 34) (eqb b 92 || (ltb b 32 || ltb 126 b)) e in
    let backslash = or_none (eqb b 92) (ltb b 32 || ltb 126 b) quote.1 in
    let range = or_none (ltb b 32) (ltb 126 b) backslash.1 in
    let low : 32 ≤ b = ltb-false _ _ range.0 in
    let high : b ≤ 126 = ltb-false _ _ range.1 in
    record {
      same = rw (ne_eqb b 10 (λ q. omega (arith, q)), ne_eqb b 13 (λ q. omega (arith, q)), ne_eqb b 9 (λ q. omega (arith, q)), quote.0, backslash.0, le-leb 32 b low, le-leb b 126 high)
          refl;
      ascii = omega arith;
    }

-- the first bytes of a text, so many, are printed as they are
abbrev Runs : List ℕ → ℕ → Type 0
Runs text n = flat_map printed (take n text) ≡ take n text

run_printed : (text : List ℕ) → Runs text (position_or_len is_escaped text)
run_printed [] = refl
run_printed (b ∷ text) = elim (cases_Bool (is_escaped b)) [
  | inl e ↦ subst (Runs (b ∷ text)) (sym (position-here is_escaped b text e)) refl
  | inr e ↦
      let n = position_or_len is_escaped text in
      subst (Runs (b ∷ text)) (sym (position-later is_escaped b text e))
      (ap (λ k. k ++ flat_map printed (take n text)) (printable b e).same ∙ ap (λ k. b ∷ k) (run_printed text))
]

ascii_cons : (b : ℕ) (text : List ℕ) → b < 128 → IsAscii text → IsAscii (b ∷ text)
ascii_cons b text h more zero = h
ascii_cons b text h more (suc i) = more i

ascii_none : IsAscii []
ascii_none zero = omega arith
ascii_none (suc i) = omega arith

pub run_ascii : (text : List ℕ) → IsAscii (take (position_or_len is_escaped text) text)
run_ascii [] = ascii_none
run_ascii (b ∷ text) = elim (cases_Bool (is_escaped b)) [
  | inl e ↦ subst (λ n. IsAscii (take n (b ∷ text))) (sym (position-here is_escaped b text e)) ascii_none
  | inr e ↦
      let n = position_or_len is_escaped text in
      subst (λ n. IsAscii (take n (b ∷ text))) (sym (position-later is_escaped b text e))
      (ascii_cons b (take n text) (printable b e).ascii (run_ascii text))
]

-- a run behind a place, printed behind what is printed up to there
pub printed_run : (text : List ℕ) (done n : ℕ) → n ≡ position_or_len is_escaped (drop done text)
    → (34 ∷ flat_map printed (take done text)) ++ take n (drop done text) ≡ 34 ∷ flat_map printed (take (done + n) text)
printed_run text done n e =
    let here : Runs (drop done text) n = subst (Runs (drop done text)) (sym e) (run_printed (drop done text)) in
    ap (λ k. 34 ∷ flat_map printed (take done text) ++ k) (sym here)
    ∙ ap (λ k. 34 ∷ k) (sym (flat_map-append printed (take done text) (take n (drop done text))))
    ∙ ap (λ k. 34 ∷ flat_map printed k) (sym (take-add done n text))
