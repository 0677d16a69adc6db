use Rattle.std.proofs.Common.{length}
use Rattle.strm_pair.proofs.images.widths.+know_modules.Given as goal

abbrev pub decreases-know_modules : goal.decreases-know_modules
decreases-know_modules l = length l.modules.now
