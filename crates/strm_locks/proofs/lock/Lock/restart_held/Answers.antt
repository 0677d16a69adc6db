use Rattle.std.proofs.Common.{rules}
use Rattle.strm_locks.proofs.Calling.{became, lent}
use Rattle.strm_locks.proofs.lock.Lock.restart_held.Goals as goal

pub slot_mut-held-requires : goal.slot_mut-held-requires
slot_mut-held-requires g c = (search rules, lent _ c.requires.lock)

pub returns-clause-did : goal.returns-clause-did
returns-clause-did g c = became _ _ c.slot_mut-held.result.now c.restart.new.self c.slot_mut-held.ensures.value (c.restart.ensures.book, c.audit.ensures.sound, c.restart.ensures.pair)
