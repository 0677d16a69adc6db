use Rattle.strm_ldterm.specs.Stands.{paired}
use Rattle.strm_ldterm.proofs.Bytes.{Ran}
use Rattle.strm_ldterm.proofs.service_calls.treat_bytes.Given as goal

abbrev pub invariant-loop-left : goal.invariant-loop-left
invariant-loop-left g l =
    Ran (g.B.Blocks.value l.fn.store) (g.B.Blocks.value l.store) l.fn.here (paired l.fn.ldterm l.fn.queues) (paired l.ldterm l.queues) l.fn.bytes l.left l.notes.items l.fn.told l.told

abbrev pub decreases-loop-left : goal.decreases-loop-left
decreases-loop-left g l = l.left
