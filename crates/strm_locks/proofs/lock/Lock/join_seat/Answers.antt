use Rattle.std.proofs.Common.{rules}
use Rattle.strm_locks.proofs.Keeps.{joins, looks}
use Rattle.strm_locks.proofs.lock.Lock.join_seat.Goals as goal

pub join_seat-requires : goal.join_seat-requires
join_seat-requires g c = (search rules, search rules, search rules, search rules, joins _ _ _ _ _ c.requires.other_free.1)

pub load-requires : goal.load-requires
load-requires g c = (search rules, search rules, looks _ _ _ _)
