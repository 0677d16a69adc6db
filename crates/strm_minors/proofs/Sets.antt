-- What masks of one bit and unions do to the minors that an opener holds.
use Rattle.std.proofs.Common.{◌≡◌, ℕ, ◌+◌, ◌-◌, ◌*◌, ◌%◌, ◌^◌, ◌<◌, List, [], ◌∷◌, ◌++◌, inl, inr, ⊎_elim, ap, ◌∙◌, arith}
use mathlib.Core.Logic.{dite}
use native.Mathlib.Decide.{ℕ_discrete, dec_le}
use lib.Bits.{bit_and}
use mir.Syntax.{w64}
use Rattle.std.specs.Int.{bit_at}
use Rattle.std.specs.Int.RustNames.{bit_or}
use Rattle.std.proofs.Math.Nat.{mod-lt}
use Rattle.std.proofs.lemmas.Nat.Bits.{bit_at_and, bit_at_or, bit_at-lt, bit_at-zero, bit_at_above, bit_at_set_same, bit_at_set_other, bit_at_clear_same, bit_at_clear_other, bit_at_not}
use Rattle.atomic_table.specs.Seated.{TableId}
use Rattle.strm_minors.specs.Openers.{Holding, Gains, Loses, Unites, passing}
use Rattle.strm_minors.specs.Rule.{IsBit}

-- `1 << k`, and `!(1 << k)`
abbrev pub shifted : ℕ → ℕ
shifted k = 1 * 2 ^ k % 18446744073709551616

abbrev pub others_of : ℕ → ℕ
others_of k = 18446744073709551615 - shifted k

pub one_shifted : (k : ℕ) → k < 64 → IsBit (shifted k) k
one_shifted k small = record { here = bit_at_set_same w64 0 k small; others = λ i other. bit_at_set_other w64 0 k small i other ∙ bit_at-zero i }

-- the one bit that is clear in the mask of the others is held
pub clears_own : (held k : ℕ) → k < 64 → bit_at held k ≡ 1 → (i : ℕ) → i < 64 → bit_at (others_of k) i ≡ 0 → bit_at held i ≡ 1
clears_own held k small own i near clear = dite (ℕ_discrete i k) (λ e. ap (bit_at held) e ∙ own)
    (λ other. let f : shifted k < 18446744073709551616 = mod-lt (1 * 2 ^ k) (omega arith) in let a = bit_at_not w64 (shifted k) i f near in
    let b = (one_shifted k small).others i other in absurd (omega arith))

pub passes : (old new : TableId) (held : ℕ) (before after : List ℕ) (k : ℕ) → new ≡ old → after ≡ before ++ k ∷ []
    → record { table = new; held = held; passed = after } ≡ passing k record { table = old; held = held; passed = before }
passes old new held before after k same passed i = record { table = same i; held = held; passed = passed i }

pub gains : (old : Holding) (table : TableId) (passed : List ℕ) (k : ℕ) → k < 64 → table ≡ old.table → passed ≡ old.passed → bit_at old.held k ≡ 0
    → Gains old record { table = table; held = bit_or old.held (shifted k); passed = passed } k
gains old table passed k small same passes free = record {
  table = same;
  passed = passes;
  before = free;
  gained = bit_at_set_same w64 old.held k small;
  others = λ i other. bit_at_set_other w64 old.held k small i other;
}

pub loses : (old : Holding) (table : TableId) (passed : List ℕ) (k : ℕ) → k < 64 → table ≡ old.table → passed ≡ old.passed → old.held < 18446744073709551616
    → Loses old record { table = table; held = bit_and old.held (others_of k); passed = passed } k
loses old table passed k small same passes fits = record {
  table = same;
  passed = passes;
  lost = bit_at_clear_same w64 old.held k small;
  others = λ i other. dite (dec_le 64 i) (λ far. let a = bit_at_above old.held 64 i fits far in let b = bit_at_and old.held (others_of k) i in omega arith)
      (λ near. bit_at_clear_other w64 old.held k small i (omega arith) other);
}

pub unites : (first second : Holding) (table : TableId) (passed : List ℕ) → table ≡ first.table → passed ≡ first.passed ++ second.passed
    → ((k : ℕ) → bit_at first.held k + bit_at second.held k < 2) → Unites first second record { table = table; held = bit_or first.held second.held; passed = passed }
unites first second table passed same passes apart = record {
  table = same;
  passed = passes;
  apart = λ k one other. let a = apart k in absurd (omega arith);
  both = λ k. let x = bit_at_or first.held second.held k in let y = bit_at-lt first.held k in let z = bit_at-lt second.held k in (
    (λ h. dite (ℕ_discrete (bit_at first.held k) 1) (λ e. inl e) (λ e. inr (omega arith))),
    (λ h. ⊎_elim (λ e. omega arith) (λ e. omega arith) h),
  );
}
