-- The lowest bit of a word that is set, from one up.
use Rattle.std.proofs.Common.{ℕ, ◌≡◌, ◌<◌, ◌≤◌, ◌-◌, ◌*◌, ◌%◌, ◌^◌, Bool, true, false, refl, ap, ◌∙◌, arith, w64, bit_and}
use Rattle.std.specs.Prelude.{min, nat_lt, ◌==◌}
use Rattle.std.specs.Int.{bit_at, trailing_zeros}
use Rattle.std.proofs.lemmas.Bool.Decides.{nat_tests}
use Rattle.std.proofs.lemmas.Nat.Bits.{bit_at_and, bit_at-zero, bit_at-lt, bit_at-trailing_zeros, ones_shl, bit_at_mask_inside, bit_at_mask_below}
use Rattle.strm_queue.specs.Sets.{has_bit, IsLowest}

-- the bits from one up
abbrev pub left : ℕ → ℕ → ℕ
left word from = bit_and word ((2 ^ 64 - 1) * 2 ^ from % 2 ^ 64)

left-bit : (word from i : ℕ) → from < 64 → bit_at (left word from) i ≡ min (bit_at word i) (bit_at (2 ^ 64 - 2 ^ from) i)
left-bit word from i low = ap (λ m. bit_at (bit_and word m) i) (ones_shl 64 from (omega (arith, low))) ∙ bit_at_and word (2 ^ 64 - 2 ^ from) i

pub none-left : (word from : ℕ) → from < 64 → left word from ≡ 0 → (i : ℕ) → from ≤ i → i < 64 → has_bit word i ≡ false
none-left word from low none i le lt =
    let zero : bit_at (left word from) i ≡ 0 = ap (λ n. bit_at n i) none ∙ bit_at-zero i in
    let here = left-bit word from i low in
    let ones = bit_at_mask_inside from 64 i le lt in
    let is : bit_at word i ≡ 0 = omega (arith, zero, here, ones) in
    ap (λ b. b == 1) is

pub lowest-left : (word from : ℕ) → from < 64 → 0 < left word from → left word from < 2 ^ 64 → IsLowest word from (trailing_zeros w64 (left word from))
lowest-left word from low some fits =
    let is = bit_at-trailing_zeros w64 (left word from) some fits in
    let at = trailing_zeros w64 (left word from) in
    let here = left-bit word from at low in
    let less = bit_at-lt word at in
    record {
      from_on = from-on at (nat_lt at from) refl is.1 here;
      within = is.0;
      set = (let is_one : bit_at word at ≡ 1 = omega (arith, less, is.1, here) in ap (λ b. b == 1) is_one);
      none_before = λ i le lt.
          let zero = is.2 i lt in
          let there = left-bit word from i low in
          let ones = bit_at_mask_inside from 64 i le (omega (arith, lt, is.0)) in
          let is_zero : bit_at word i ≡ 0 = omega (arith, zero, there, ones) in
          ap (λ b. b == 1) is_zero;
    }
  where
    from-on : (at : ℕ) (b : Bool) → nat_lt at from ≡ b → bit_at (left word from) at ≡ 1 → bit_at (left word from) at ≡ min (bit_at word at) (bit_at (2 ^ 64 - 2 ^ from) at) → from ≤ at
    from-on at true before one here =
        let lt : at < from = grind (arith, nat_tests) in
        absurd (omega (arith, one, here, bit_at_mask_below from 64 at lt))
    from-on at false behind one here = grind (arith, nat_tests)
