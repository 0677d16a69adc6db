-- Fewer modules are left.
use Rattle.std.proofs.Common.{length}
use Rattle.strm_pair.proofs.images.modules.+put_each.Given as goal

abbrev pub decreases-put_each : goal.decreases-put_each
decreases-put_each g p = length p.modules.now
