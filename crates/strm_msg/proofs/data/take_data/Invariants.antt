use Rattle.strm_msg.proofs.Taking.{Going}
use Rattle.strm_msg.proofs.data.take_data.Given as goal
use Rattle.strm_blocks.specs.Blocks.{token}

abbrev pub invariant-loop-at : goal.invariant-loop-at
invariant-loop-at g l = Going (g.B.Blocks.value l.fn.store) (g.B.Blocks.value l.store) (token l.message) l.fn.buffer l.buffer l.done l.at
