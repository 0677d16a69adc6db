use Rattle.std.proofs.Common.{rules}
use Rattle.strm_locks.proofs.Keeps.{sits}
use Rattle.strm_locks.proofs.lock.Lock.sit.Goals as goal

pub load_new_seat-requires : goal.load_new_seat-requires
load_new_seat-requires g c = (search rules, sits _ _)
