use Rattle.strm_pair.proofs.Prelude.{length}
use Rattle.strm_pair.specs.Shelves.{Restocks, pairs_among}
use Rattle.strm_pair.proofs.stacks.take_modules.Given as goal

abbrev pub invariant-loop-stack : goal.invariant-loop-stack
invariant-loop-stack l = record {
  shelf : Restocks l.initial.shelf l.shelf (pairs_among l.initial.stack.modules.items) (pairs_among l.stack.modules.items);
}

abbrev pub decreases-loop-stack : goal.decreases-loop-stack
decreases-loop-stack l = length l.stack.modules.items
