use Rattle.strm_queue.specs.Stored.{IsHeadQueue}
use Rattle.strm_tests.proofs.head.steps.follow.Given as goal

abbrev pub invariant-loop-at : goal.invariant-loop-at
invariant-loop-at g l = IsHeadQueue (g.B.Blocks.value l.store) l.head.queue
