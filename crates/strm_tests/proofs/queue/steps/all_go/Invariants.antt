use Rattle.strm_blocks.specs.Blocks.{list_at}
use Rattle.strm_queue.specs.Kept.{AreCounted}
use Rattle.strm_tests.proofs.queue.steps.all_go.Given as goal

abbrev pub invariant-loop-at : goal.invariant-loop-at
invariant-loop-at g l = AreCounted l.queue.flows (list_at (g.B.Blocks.value l.store) l.queue.list)
