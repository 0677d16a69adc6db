-- Fewer names are left.
use Rattle.std.proofs.Common.{length}
use Rattle.strm_pair.proofs.images.known.+are_known.Given as goal

abbrev pub decreases-are_known : goal.decreases-are_known
decreases-are_known g l = length l.modules.now
