use Rattle.std.proofs.Common.{ℕ, ◌<◌, length}
use Rattle.strm_blocks.specs.Blocks.{in_hand, block_at, token}
use Rattle.strm_msg.proofs.emptied.all_show.Given as goal

abbrev pub invariant-loop-at : goal.invariant-loop-at
invariant-loop-at g l = (k : ℕ) → k < l.at → 0 < length (block_at k (in_hand (g.B.Blocks.value l.store) (token l.message))).bytes
