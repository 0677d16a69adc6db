use Rattle.std.proofs.Common.{length}
use Rattle.strm_pair.proofs.stacks.+pairs_among.Given as goal

abbrev pub decreases-pairs_among : goal.decreases-pairs_among
decreases-pairs_among l = length l.modules.now
