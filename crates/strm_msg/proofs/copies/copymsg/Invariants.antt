use Rattle.std.proofs.Common.{take}
use Rattle.strm_blocks.specs.Blocks.{in_hand, token}
use Rattle.strm_msg.specs.Made.{Made}
use Rattle.strm_msg.proofs.copies.copymsg.Given as goal

abbrev pub invariant-loop-at : goal.invariant-loop-at
invariant-loop-at g l = Made (g.B.Blocks.value l.fn.store) (g.B.Blocks.value l.store) (token l.copy) (take l.at (in_hand (g.B.Blocks.value l.fn.store) (token l.message)))
