use Rattle.std.proofs.Common.{length}
use Rattle.strm_pair.proofs.images.made_stacks.+stack_of.Given as goal

abbrev pub decreases-stack_of : goal.decreases-stack_of
decreases-stack_of g l = length l.texts.now
