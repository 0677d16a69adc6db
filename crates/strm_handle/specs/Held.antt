-- What a C program's handle owns: what a box of a pair or of a trace owns, or nothing.
use Rattle.std.specs.Prelude.{Option, None, Some}
use base.Fml.{Fml, ftrue}
use base.Stored.{Coded}
use Rattle.std.specs.Coded.{coded_option}
use denote.RawPtr.{Ptr}
use Rattle.std.specs.Box.Ownership.{box_owns}
use Rattle.std.specs.Global.{Global}
use Rattle.std_heap.specs.contracts.GlobalAllocator.TheImpl.{ghosts}
use Rattle.strm_handle.specs.contracts.stored.Stored as trace
use Rattle.strm_handle.specs.contracts.kept.Kept.{the_row}

abbrev pub KeptValue : Type 0
KeptValue = Option the_row.Denot

abbrev pub TraceValue : Type 0
TraceValue = Option trace.the_row.Denot

abbrev pub held_owns : Global → Ptr → KeptValue → Fml
held_owns alloc at None = ftrue
held_owns alloc at (Some kept) = box_owns (ghosts.dealloc_token alloc) the_row at kept

abbrev pub trace_owns : Global → Ptr → TraceValue → Fml
trace_owns alloc at None = ftrue
trace_owns alloc at (Some kept) = box_owns (ghosts.dealloc_token alloc) trace.the_row at kept

-- something is held
abbrev pub IsOpen : {A : Type 0} → Option A → Type 0
IsOpen None = ⊥
IsOpen (Some kept) = Unit {0}

abbrev pub kept_coded : Coded KeptValue
kept_coded = coded_option the_row.coded

abbrev pub trace_coded : Coded TraceValue
trace_coded = coded_option trace.the_row.coded
