-- The flow control of one band (STREAMS Programming Guide, "Flow Control").
use Rattle.std.specs.Prelude.{◌≡◌, ℕ, ◌+◌, ◌-◌, ◌&&◌, Bool, false, nat_le, if◌then◌else◌, List, map}
use Rattle.strm_types.specs.Queue as plain
use Rattle.strm_types.specs.declared.options.Marks.{Marks}
use Rattle.strm_queue.specs.declared.flow.Flow.{Flow}

-- how many bytes stand in a band, by its kept counts
abbrev pub count_in : Flow → ℕ
count_in f = f.data_bytes + f.other_bytes

-- those of data alone, or all
abbrev pub kept_bytes : Bool → Flow → ℕ
kept_bytes data_alone f = if data_alone then f.data_bytes else count_in f

-- the full flag says whether the count is at or above the high-water mark
abbrev pub IsMarked : Flow → Type 0
IsMarked f = f.full ≡ nat_le f.high (count_in f)

-- the full flag set anew
abbrev pub marked : Flow → Flow
marked f = record f { full = nat_le f.high (count_in f) }

-- with a message's bytes, of data or of another kind
abbrev pub added_to : Bool → ℕ → Flow → Flow
added_to is_data bytes f = marked (if is_data then record f { data_bytes = f.data_bytes + bytes } else record f { other_bytes = f.other_bytes + bytes })

-- without them
abbrev pub removed_from : Bool → ℕ → Flow → Flow
removed_from is_data bytes f = marked (if is_data then record f { data_bytes = f.data_bytes - bytes } else record f { other_bytes = f.other_bytes - bytes })

-- after a flush of all, or of data
abbrev pub flushed_of : Bool → Flow → Flow
flushed_of all f = marked (if all then record f { data_bytes = 0; other_bytes = 0 } else record f { data_bytes = 0 })

-- with other marks
abbrev pub marked_with : ℕ → ℕ → Flow → Flow
marked_with high low f = marked (record f { high = high; low = low })

-- with a writer that waits, or with none
abbrev pub waiting : Bool → Flow → Flow
waiting waits f = record f { want_write = waits }

-- a writer waits, and the count has come down to the low-water mark
abbrev pub relieves : Flow → Bool
relieves f = f.want_write && nat_le (count_in f) f.low

-- the waiting writer is let go
abbrev pub relieved : Flow → Flow
relieved f = if relieves f then record f { want_write = false } else f

-- what flow control has beside its counts: the marks, and whether a writer waits
abbrev pub plain_flow : Flow → plain.Flow
plain_flow f = record { high = f.high; low = f.low; want_write = f.want_write }

abbrev pub plain_flows : List Flow → List plain.Flow
plain_flows flows = map plain_flow flows

-- that of a band with these marks for which no writer waits
abbrev pub at_rest : Marks → plain.Flow
at_rest marks = record { high = marks.high; low = marks.low; want_write = false }
