use Rattle.strm_msg.proofs.Adjusting.{Trimming}
use Rattle.strm_msg.proofs.adjust.trim_blocks.Given as goal
use Rattle.strm_blocks.specs.Blocks.{token}

abbrev pub invariant-loop-steps : goal.invariant-loop-steps
invariant-loop-steps g l = Trimming (g.B.Blocks.value l.fn.store) (g.B.Blocks.value l.store) l.end (token l.message) l.n l.steps l.left
