-- The first band of a set, from one up.
use Rattle.std.proofs.Common.{ℕ, ◌≡◌, ◌<◌, ◌≤◌, ◌+◌, ◌-◌, ◌*◌, ◌/◌, ◌%◌, Bool, true, false, refl, ap, subst, ◌∙◌, arith}
use Rattle.std.specs.Prelude.{nat_lt, slice_index}
use Rattle.std.proofs.lemmas.Bool.Decides.{nat_tests}
use Rattle.strm_types.specs.declared.limits.TheConstants.{BANDS}
use Rattle.strm_queue.specs.declared.bandset.BandSet.{BandSet}
use Rattle.strm_queue.specs.Sets.{has, has_bit, IsLowest, IsNext}

-- a band by its word and its place there
pub has-at : (s : BandSet) (word at : ℕ) → at < 64 → has s (word * 64 + at) ≡ has_bit (slice_index s.words word) at
has-at s word at lt =
    let w : (word * 64 + at) / 64 ≡ word = omega (arith, lt) in
    let b : (word * 64 + at) % 64 ≡ at = omega (arith, lt) in
    ap (λ k. has_bit (slice_index s.words k) ((word * 64 + at) % 64)) w ∙ ap (λ k. has_bit (slice_index s.words word) k) b

-- none of the bands from one up to another is in the set
pub record NoneWithin (s : BandSet) (from end : ℕ) : Type 0 where
  pub none : (band : ℕ) → from ≤ band → band < end → has s band ≡ false

module _ (s : BandSet) (from word low : ℕ) (sofar : NoneWithin s from (word * 64 + low)) where
  -- nor one further on, where none of its word is before it
  none-at : (end : ℕ) → end ≤ 64 → ((i : ℕ) → low ≤ i → i < end → has_bit (slice_index s.words word) i ≡ false) → (band : ℕ) → from ≤ band → band < word * 64 + end → has s band ≡ false
  none-at end fits none band le lt = at (nat_lt band (word * 64 + low)) refl
    where
      at : (b : Bool) → nat_lt band (word * 64 + low) ≡ b → has s band ≡ false
      at true before = let earlier : band < word * 64 + low = grind (arith, nat_tests) in sofar.none band le earlier
      at false behind =
          let later : word * 64 + low ≤ band = grind (arith, nat_tests) in
          let i = band - word * 64 in
          let is : word * 64 + i ≡ band = omega (arith, later) in
          let here = none i (omega (arith, later)) (omega (arith, later, lt)) in
          subst (λ k. has s k ≡ false) is (has-at s word i (omega (arith, later, lt, fits)) ∙ here)

  pub none-more : ((i : ℕ) → low ≤ i → i < 64 → has_bit (slice_index s.words word) i ≡ false) → NoneWithin s from ((word + 1) * 64 + 0)
  none-more none = record { none = λ band le lt. none-at 64 (omega arith) none band le (omega (arith, lt)) }

  pub next-found : (at : ℕ) → from ≤ word * 64 + low → IsLowest (slice_index s.words word) low at → word * 64 + at + 1 < BANDS → IsNext s from (word * 64 + at)
  next-found at le is within = record {
    from_on = omega (arith, le, is.from_on);
    within = within;
    set = has-at s word at is.within ∙ is.set;
    none_before = λ i first lt. none-at at (omega (arith, is.within)) is.none_before i first lt;
  }

  pub none-found : (at : ℕ) → IsLowest (slice_index s.words word) low at → BANDS ≤ word * 64 + at + 1 → (band : ℕ) → from ≤ band → band + 1 < BANDS → has s band ≡ false
  none-found at is past band first lt = none-at at (omega (arith, is.within)) is.none_before band first (omega (arith, lt, past))
