use Rattle.std.proofs.Common.{length}
use Rattle.strm_pair.proofs.images.widths.+know_counts.Given as goal

abbrev pub decreases-know_counts : goal.decreases-know_counts
decreases-know_counts l = length l.counts.now
