use Rattle.std.proofs.Common.{length}
use Rattle.strm_pair.proofs.ledgers.+sum.Given as goal

abbrev pub decreases-sum : goal.decreases-sum
decreases-sum l = length l.counts.now
