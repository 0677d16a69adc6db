use Rattle.std.proofs.Common.{length}
use Rattle.strm_frame.proofs.stack.+stands.Given as goal

abbrev pub decreases-stands : goal.decreases-stands
decreases-stands g l = length l.modules.now
