use Rattle.std.proofs.Common.{rules}
use Rattle.strm_locks.proofs.Keeps.{splits}
use Rattle.strm_locks.proofs.lock.Lock.split_seat.Goals as goal

pub split_seat-requires : goal.split_seat-requires
split_seat-requires g c = (search rules, search rules, splits _ _ _ c.requires.free.1)
