use Rattle.std.proofs.Common.{length}
use Rattle.strm_blocks.specs.Blocks.{in_hand, token}
use Rattle.strm_msg.proofs.emptied.+keep_filled.Given as goal

abbrev pub decreases-keep_filled : goal.decreases-keep_filled
decreases-keep_filled g l = length (in_hand (g.B.Blocks.value l.store.now) (token l.message))
