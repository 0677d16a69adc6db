use Rattle.strm_msg.proofs.Dropping.{Dropping}
use Rattle.strm_msg.proofs.pulls.drop_joined.Given as goal
use Rattle.strm_blocks.specs.Blocks.{token}

abbrev pub invariant-loop : goal.invariant-loop
invariant-loop g l = Dropping (g.B.Blocks.value l.fn.store) (g.B.Blocks.value l.store) (token l.fn.message) (token l.message) l.count l.left l.counter
