use Rattle.strm_blocks.specs.Blocks.{in_hand, token}
use Rattle.strm_msg.proofs.Gathering.{Gathered}
use Rattle.strm_msg.proofs.bytes.first_bytes.Given as goal

abbrev pub invariant-loop-at : goal.invariant-loop-at
invariant-loop-at g l = Gathered (in_hand (g.B.Blocks.value l.store) (token l.message)) l.fn.buffer l.buffer l.done l.at
