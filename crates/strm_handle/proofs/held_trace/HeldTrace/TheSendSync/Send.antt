-- What is held may go to another thread, as a box of it may.
use mir.Raw.{raw}
use base.Shift.{Keyless}
use denote.Memory.{lone}
use denote.RawPtr.{Ptr}
use denote.Struct.Struct.{exits_of}
use denote.Struct.Owning.{shape, fields, to}
use denote.Param.Send.{IsSend, AllSend, owning_send, struct_send, sendable}
use Rattle.std.proofs.Crossing.{frees}
use Rattle.std.proofs.alloc.Global.TheSendSync as heap
use Rattle.std_alloc.proofs.SendSync.{lies, quiet}
use Rattle.std.specs.Prelude.{None, Some}
use Rattle.std.specs.Global.{Global}
use Rattle.strm_handle.specs.Held.{TraceValue, trace_owns}
use Rattle.strm_handle.specs.contracts.stored.Stored as Trace
use Rattle.strm_handle.specs.contracts.held_trace.HeldTrace.{the_type, the_row}
use Rattle.strm_handle.proofs.stored.Stored.TheSendSync as trace

owned : (alloc : Global) (p : Ptr) (k : TraceValue) → Keyless (trace_owns alloc p k)
owned alloc p None = tt
owned alloc p (Some k) = (lies Trace.the_row trace.the_send p k, frees.frees alloc (raw (lone Trace.the_row.mir)) p)

pub send : IsSend the_row
send =
    let all : AllSend (fields the_type) = (search sendable, (heap.the_field_send, tt)) in
    owning_send the_type all (λ d. owned d.alloc d.ptr d.kept) (λ k. quiet (to the_type) (exits_of k (fields the_type)) ((struct_send (shape the_type) all).leaving k))
