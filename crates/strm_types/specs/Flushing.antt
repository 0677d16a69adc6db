-- What an M_FLUSH asks for (STREAMS Programming Guide, "Flush Handling"; sys/stream.h: FLUSHR, FLUSHW, FLUSHBAND).
use Rattle.std.specs.Prelude.{ℕ, Bool, true, false, ◌+◌, ◌==◌, ◌/◌, ◌%◌, if◌then◌else◌, List, [], ◌∷◌, Option, None, Some, not, ◌&&◌}
use Rattle.strm_types.specs.declared.flushing.FlushAsked.{FlushAsked}
use Rattle.strm_types.specs.declared.events.FlushQueues.{FlushQueues}
use Rattle.strm_types.specs.declared.events.FlushQueues.TheVariants.{Read, Write, Both}
use Rattle.strm_types.specs.declared.kinds.Band.{Band}
use Rattle.strm_types.specs.declared.kinds.MsgKind.{MsgKind}
use Rattle.strm_types.specs.declared.kinds.MsgKind.TheVariants.{Flush}
use Rattle.strm_types.specs.Message.{Message, has_parts}

abbrev pub is_flush : MsgKind → Bool
is_flush Flush = true
is_flush _ = false

-- whether a flag of a worth is set
abbrev pub has_flag : ℕ → ℕ → Bool
has_flag worth flags = flags / worth % 2 == 1

abbrev pub nothing_asked : FlushAsked
nothing_asked = record { for_read = false; for_write = false; band = None }

-- with a band, which has to be there
abbrev pub asked_of_band : FlushAsked → List ℕ → FlushAsked
asked_of_band all [] = nothing_asked
asked_of_band all (band ∷ bytes) = record all { band = Some (record { 0 = band }) }

-- FLUSHR is 1, FLUSHW is 2; with FLUSHBAND, which is 4, the next byte is a band
abbrev pub asked_by : List ℕ → FlushAsked
asked_by [] = nothing_asked
asked_by (flags ∷ bytes) =
    let all : FlushAsked = record { for_read = has_flag 1 flags; for_write = has_flag 2 flags; band = None } in
    if has_flag 4 flags then asked_of_band all bytes else all

-- the bytes of an M_FLUSH with FLUSHR alone, of a band or of all
abbrev pub read_flush : Option Band → List ℕ
read_flush None = 1 ∷ []
read_flush (Some band) = 5 ∷ band.0 ∷ []

-- the worth of the flags for readers and for writers
abbrev pub flags_of : Bool → Bool → ℕ
flags_of false false = 0
flags_of true false = 1
flags_of false true = 2
flags_of true true = 3

-- the bytes of an M_FLUSH that asks for this
abbrev pub flush_bytes : FlushAsked → List ℕ
flush_bytes asked = with_band asked.band (flags_of asked.for_read asked.for_write)
  where
    with_band : Option Band → ℕ → List ℕ
    with_band None flags = flags ∷ []
    with_band (Some band) flags = (flags + 4) ∷ band.0 ∷ []

-- what a flush of a stream asks for
abbrev pub asked_of : FlushQueues → Option Band → FlushAsked
asked_of Read band = record { for_read = true; for_write = false; band = band }
asked_of Write band = record { for_read = false; for_write = true; band = band }
asked_of Both band = record { for_read = true; for_write = true; band = band }

-- an M_FLUSH of these bytes
abbrev pub flush_message : {C : Type 0} → List ℕ → Message C
flush_message bytes = record { kind = Flush; band = 0; control = None; body = None; plain = bytes }

-- an M_FLUSH, as it always is: without parts
abbrev pub is_bare_flush : {C : Type 0} → Message C → Bool
is_bare_flush m = is_flush m.kind && not (has_parts m)
