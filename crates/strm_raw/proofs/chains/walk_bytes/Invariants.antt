use Rattle.strm_raw.proofs.Walks.{Summing}
use Rattle.strm_raw.proofs.chains.walk_bytes.Given as goal

abbrev pub invariant-loop-left : goal.invariant-loop-left
invariant-loop-left l = Summing l.memory l.fn.first l.link l.fn.most l.left l.bytes

abbrev pub decreases-loop-left : goal.decreases-loop-left
decreases-loop-left l = l.left
