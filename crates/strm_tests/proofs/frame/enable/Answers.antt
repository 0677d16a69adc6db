-- Where fewer than 14 are enabled there is room.
use Rattle.std.proofs.Common.{ap, arith, length}
use Rattle.strm_tests.proofs.frame.enable.Goals as goal

pub enable-requires : goal.enable-requires
enable-requires c = record { room = λ has absent. let same = ap length c.as_slice.ensures.names in omega (arith, same) }
