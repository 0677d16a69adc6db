use Rattle.strm_ldterm.specs.Stands.{paired}
use Rattle.strm_ldterm.proofs.Poured.{Pours}
use Rattle.strm_ldterm.proofs.output.post_bytes.Given as goal

abbrev pub invariant-loop-left : goal.invariant-loop-left
invariant-loop-left g l =
    Pours (g.B.Blocks.value l.fn.store) (g.B.Blocks.value l.store) l.fn.here (paired l.fn.ldterm l.queues) (paired l.ldterm l.queues) l.fn.bytes l.left l.fn.told l.told

abbrev pub decreases-loop-left : goal.decreases-loop-left
decreases-loop-left g l = l.left
