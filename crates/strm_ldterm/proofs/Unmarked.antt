-- A byte that isn't marked is plain, and each byte in raw mode.
use Rattle.strm_ldterm.proofs.Prelude.{ℕ, ◌≡◌, ◌≤◌, ◌<◌, ◌+◌, ◌%◌, Bool, true, false, cond, List, get_or, length, refl, sym, ap, ◌∙◌, arith}
use Rattle.strm_ldterm.proofs.Prelude.{and_parts, false≢true, nat_tests, ◌&&◌, ◌||◌, ◌==◌, nat_le, nat_lt, not}
use Rattle.strm_ldterm.specs.Prelude.{Termios, is_control, carriage_return, lowered, newline, stripped, echo, icanon, isig, istrip, iuclc, ixon}
use Rattle.std.proofs.lemmas.List.{get_or_past}
use Rattle.std.specs.List.{list_any}
use Rattle.strm_ldterm.specs.PlainRuns.{has_keys, is_plain, is_raw, turns_ends}

-- it stands outside of what a mode marks
pub outside : (now : List Bool) (b from to : ℕ) (mode : Bool) → get_or now b true ≡ false → (mode ≡ true → from ≤ b → b < to → get_or now b true ≡ true) → (mode && (nat_le from b && nat_lt b to)) ≡ false
outside now b from to false free marks = refl
outside now b from to true free marks = at (nat_le from b && nat_lt b to) refl
  where
    at : (v : Bool) → (nat_le from b && nat_lt b to) ≡ v → v ≡ false
    at false is = refl
    at true is = absurd (false≢true (sym free ∙ marks refl (grind (arith, nat_tests)) (grind (arith, nat_tests))))

-- and in the table
pub in-table : (now : List Bool) (b : ℕ) → length now ≡ 256 → get_or now b true ≡ false → b < 256
in-table now b long free = at (nat_lt b 256) refl
  where
    at : (v : Bool) → nat_lt b 256 ≡ v → b < 256
    at true is = grind (arith, nat_tests)
    at false is = (let past : length now ≤ b = grind (arith, nat_tests) in absurd (false≢true (sym free ∙ get_or_past now b true past)))

no-control : (loud : Bool) (b : ℕ) → (loud && (nat_le 0 b && nat_lt b 32)) ≡ false → (loud && (nat_le 127 b && nat_lt b 128)) ≡ false → (loud && is_control b) ≡ false
no-control false b low high = refl
no-control true b low high = grind (arith, nat_tests)

no-end : (ends : Bool) (b : ℕ) → (ends && (nat_le 10 b && nat_lt b 11)) ≡ false → (ends && (nat_le 13 b && nat_lt b 14)) ≡ false → (ends && (b == newline || b == carriage_return)) ≡ false
no-end false b one two = refl
no-end true b one two = grind (arith, nat_tests)

strips-none : (strip : Bool) (b : ℕ) → b < 256 → (strip && (nat_le 128 b && nat_lt b 256)) ≡ false → cond strip (b % 128) b ≡ b
strips-none false b few out = refl
strips-none true b few out = (let low : b < 128 = grind (arith, nat_tests) in omega arith)

lowers-none : (lower : Bool) (b : ℕ) → (lower && (nat_le 65 b && nat_lt b 91)) ≡ false → cond (lower && (nat_le 65 b && nat_le b 90)) (b + 32) b ≡ b
lowers-none false b out = refl
lowers-none true b out = (let is : (nat_le 65 b && nat_le b 90) ≡ false = grind (arith, nat_tests) in ap (λ v. cond v (b + 32) b) is)

pub plain-is : (t : Termios) (b : ℕ) → b < 256
    → (echo t && (nat_le 0 b && nat_lt b 32)) ≡ false → (echo t && (nat_le 127 b && nat_lt b 128)) ≡ false
    → (turns_ends t && (nat_le 10 b && nat_lt b 11)) ≡ false → (turns_ends t && (nat_le 13 b && nat_lt b 14)) ≡ false
    → (istrip t && (nat_le 128 b && nat_lt b 256)) ≡ false → (iuclc t && (nat_le 65 b && nat_lt b 91)) ≡ false
    → (has_keys t && list_any (λ c. c == b) t.control) ≡ false → is_plain t b ≡ true
plain-is t b few low high feed return strips lowers keys =
    let one = no-control (echo t) b low high in
    let two = no-end (turns_ends t) b feed return in
    let same : lowered t (stripped t b) ≡ b = ap (lowered t) (strips-none (istrip t) b few strips) ∙ lowers-none (iuclc t) b lowers in
    let is : (lowered t (stripped t b) == b) ≡ true = grind (arith, nat_tests) in
    rw (one, two, keys) is

not-false : (b : Bool) → not b ≡ true → b ≡ false
not-false true is = absurd (false≢true is)
not-false false is = refl

-- in raw mode
module _ (t : Termios) (is : is_raw t ≡ true) where
  first : (not (has_keys t) ≡ true) × ((not (turns_ends t) && (not (echo t) && (not (istrip t) && not (iuclc t)))) ≡ true)
  first = and_parts (not (has_keys t)) (not (turns_ends t) && (not (echo t) && (not (istrip t) && not (iuclc t)))) is

  second : (not (turns_ends t) ≡ true) × ((not (echo t) && (not (istrip t) && not (iuclc t))) ≡ true)
  second = and_parts (not (turns_ends t)) (not (echo t) && (not (istrip t) && not (iuclc t))) first.1

  third : (not (echo t) ≡ true) × ((not (istrip t) && not (iuclc t)) ≡ true)
  third = and_parts (not (echo t)) (not (istrip t) && not (iuclc t)) second.1

  fourth : (not (istrip t) ≡ true) × (not (iuclc t) ≡ true)
  fourth = and_parts (not (istrip t)) (not (iuclc t)) third.1

  keyless : has_keys t ≡ false
  keyless = not-false (has_keys t) first.0

  pub raw-quiet : echo t ≡ false
  raw-quiet = not-false (echo t) third.0

  pub raw-lineless : icanon t ≡ false
  raw-lineless = at (icanon t) (isig t || ixon t) keyless
    where
      at : (lines others : Bool) → (lines || others) ≡ false → lines ≡ false
      at true others none = none
      at false others none = refl

pub raw-plain : (t : Termios) (b : ℕ) → is_raw t ≡ true → is_plain t b ≡ true
raw-plain t b is =
    let same : lowered t (stripped t b) ≡ b =
    ap (lowered t) (ap (λ v. cond v (b % 128) b) (not-false (istrip t) (fourth t is).0))
    ∙ ap (λ v. cond (v && (nat_le 65 b && nat_le b 90)) (b + 32) b) (not-false (iuclc t) (fourth t is).1) in
    let equal : (lowered t (stripped t b) == b) ≡ true = grind (arith, nat_tests) in
    rw (raw-quiet t is, not-false (turns_ends t) (second t is).0, keyless t is) equal
