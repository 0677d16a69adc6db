use Rattle.strm_raw.proofs.Walks.{Walked}
use Rattle.strm_raw.proofs.chains.walk_to_last.Given as goal

abbrev pub invariant-loop-left : goal.invariant-loop-left
invariant-loop-left l = Walked l.memory l.fn.first l.link l.fn.most l.left

abbrev pub decreases-loop-left : goal.decreases-loop-left
decreases-loop-left l = l.left
