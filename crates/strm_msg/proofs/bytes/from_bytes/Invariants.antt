use Rattle.strm_msg.specs.Made.{Made}
use Rattle.strm_msg.proofs.Pieces.{first_pieces}
use Rattle.strm_msg.proofs.bytes.from_bytes.Given as goal
use Rattle.strm_blocks.specs.Blocks.{token}

abbrev pub invariant-loop-at : goal.invariant-loop-at
invariant-loop-at g l = Made (g.B.Blocks.value l.fn.store) (g.B.Blocks.value l.store) (token l.message) (first_pieces l.kind l.band.0 l.bytes l.at)
