-- Sets of the bands above 0, a bit each: bit 0 is that of band 1.
use Rattle.std.specs.Prelude.{ℕ, ◌≡◌, ◌<◌, ◌≤◌, ◌+◌, ◌/◌, ◌%◌, Bool, true, false, ◌==◌, slice_index}
use Rattle.std.specs.Int.{bit_at}
use Rattle.strm_types.specs.declared.limits.TheConstants.{BANDS}
use Rattle.strm_queue.specs.declared.bandset.BandSet.{BandSet}

-- whether a bit of a word is set
abbrev pub has_bit : ℕ → ℕ → Bool
has_bit word i = bit_at word i == 1

-- whether a band is in a set
abbrev pub has : BandSet → ℕ → Bool
has s at = has_bit (slice_index s.words (at / 64)) (at % 64)

-- the lowest bit of a word that is set, from one up
pub record IsLowest (word from at : ℕ) : Type 0 where
  pub from_on : from ≤ at
  pub within : at < 64
  pub set : has_bit word at ≡ true
  pub none_before : (i : ℕ) → from ≤ i → i < at → has_bit word i ≡ false

-- the first band of a set, from one up
pub record IsNext (s : BandSet) (from at : ℕ) : Type 0 where
  pub from_on : from ≤ at
  pub within : at + 1 < BANDS
  pub set : has s at ≡ true
  pub none_before : (i : ℕ) → from ≤ i → i < at → has s i ≡ false
