-- What an edit leaves of a line is how the line begins.
use Rattle.strm_laws.proofs.Prelude.{ℕ, ◌≡◌, ◌-◌, Bool, true, false, cond, List, [], ◌∷◌, ◌++◌, length, take, drop, refl, sym, ap, ◌∙◌}
use Rattle.strm_laws.proofs.Prelude.{take-append-drop, not, ◌&&◌}
use Rattle.strm_laws.specs.Prelude.{without_end, without_last, without_word, is_none_left}

module _ {C : Type 0} where
  -- how a line begins, and what is left out
  abbrev pub Begins : List C → List C → Type 0
  Begins left line = left ++ drop (length left) line ≡ line

  by-rest : (left rest : List C) → Begins left (left ++ rest)
  by-rest [] rest = refl
  by-rest (c ∷ left) rest = ap (λ l. c ∷ l) (by-rest left rest)

  -- what begins the beginning of a line begins the line
  pub begins-on : (first left line : List C) → Begins first left → Begins left line → Begins first line
  begins-on [] left line one two = refl
  begins-on (c ∷ first) [] line one two = absurd (cc)
  begins-on (c ∷ first) (d ∷ left) [] one two = absurd (cc)
  begins-on (c ∷ first) (d ∷ left) (e ∷ line) one two =
      let same : c ≡ e = cc in
      let ones : first ++ drop (length first) left ≡ left = cc in
      let twos : left ++ drop (length left) line ≡ line = cc in
      let ih = begins-on first left line ones twos in
      cc

  pub taken-begins : (n : ℕ) (line : List C) → Begins (take n line) line
  taken-begins n line = ap (λ l. take n line ++ drop (length (take n line)) l) (sym (take-append-drop n line)) ∙ by-rest (take n line) (drop n line) ∙ take-append-drop n line

  pub end-begins : (test : C → Bool) (line : List C) → Begins (without_end test line) line
  end-begins test [] = refl
  end-begins test (c ∷ line) = at (is_none_left (without_end test line) && test c) (end-begins test line)
    where
      at : (b : Bool) → Begins (without_end test line) line → Begins (cond b [] (c ∷ without_end test line)) (c ∷ line)
      at true ih = refl
      at false ih = ap (λ l. c ∷ l) ih

  pub last-begins : (line : List C) → Begins (without_last line) line
  last-begins line = taken-begins (length line - 1) line

  pub word-begins : (blank : C → Bool) (line : List C) → Begins (without_word blank line) line
  word-begins blank line = begins-on (without_word blank line) (without_end blank line) line (end-begins (λ c. not (blank c)) (without_end blank line)) (end-begins blank line)
