use Rattle.std.proofs.Common.{length}
use Rattle.strm_frame.proofs.stack.+line_lens.Given as goal

abbrev pub decreases-line_lens : goal.decreases-line_lens
decreases-line_lens g l = length l.modules.now
