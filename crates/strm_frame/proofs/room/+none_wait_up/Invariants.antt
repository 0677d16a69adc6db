use Rattle.std.proofs.Common.{length}
use Rattle.strm_frame.proofs.room.+none_wait_up.Given as goal

abbrev pub decreases-none_wait_up : goal.decreases-none_wait_up
decreases-none_wait_up g l = length l.modules.now
