-- What cutting a pair does at its handle and that of the trace, and what is told of a trace.
use Rattle.std.specs.Prelude.{ℕ, ◌≡◌, ◌⊎◌, List, Option, None, Some, IsSomeAnd}
use Rattle.strm_laws.specs.Pair.{restarted}
use Rattle.strm_image.specs.declared.trace.Trace.{Trace}
use Rattle.strm_image.specs.Traces.{IsTrace}
use Rattle.strm_pair.specs.declared.pair.Recorded.{Recorded}
use Rattle.strm_handle.specs.Entries.{AreWhole, TakesStored, Taking}
use Rattle.strm_handle.specs.Images.{ImageInto}
use Rattle.strm_handle.specs.Kept.{KeptPair}

-- each entry of a trace has its bytes
abbrev pub IsWhole : Trace → Type 0
IsWhole t = AreWhole t.entries.items t.bytes.items

-- copies of what a pair's journal holds
pub record Copies (recorded : Recorded) (t : Trace) : Type 0 where
  pub base : t.base.items ≡ recorded.base.now
  pub entries : t.entries.items ≡ recorded.entries.now
  pub bytes : t.bytes.items ≡ recorded.bytes.now

-- The trace of a pair goes into its handle, and the pair's journal begins anew; or memory is refused, and both stay.
abbrev pub CutsPair : (old new : KeptPair) (was trace : Option Trace) → ℕ → Type 0
CutsPair old new was trace n =
    ((n ≡ 0) × ((new ≡ record old { pair = restarted old.pair }) × IsSomeAnd trace (λ t. IsTrace old.pair t × IsWhole t)))
    ⊎ ((n ≡ 9) × ((new ≡ old) × (trace ≡ was)))

-- At the handles: EINVAL, which changes nothing, where that of the pair is closed, or that of the trace is open.
abbrev pub Cuts : Option KeptPair → Option KeptPair → Option Trace → Option Trace → ℕ → Type 0
Cuts (Some old) new None trace n = IsSomeAnd new (λ new. CutsPair old new None trace n)
Cuts old new was trace n = (n ≡ 1) × ((new ≡ old) × (trace ≡ was))

-- The entry at a cursor is told as that of a pair's journal is; EINVAL for a closed handle.
abbrev pub NextOfTrace : Option Trace → Taking → Taking → ℕ → Type 0
NextOfTrace None old new n = (n ≡ 1) × (new ≡ old)
NextOfTrace (Some t) old new n = TakesStored t.entries.items t.bytes.items old new n

-- The base is handed out as an image is.
abbrev pub BaseOfTrace : Option Trace → (was told : ℕ) → (before out : List ℕ) → ℕ → Type 0
BaseOfTrace None was told before out n = (n ≡ 1) × ((told ≡ was) × (out ≡ before))
BaseOfTrace (Some t) was told before out n = ImageInto t.base.items told before out n
