use Rattle.std.proofs.Common.{rules, refl}
use Rattle.strm_locks.proofs.Calling.{became, lent}
use Rattle.strm_locks.proofs.lock.Lock.seen_held.Goals as goal

pub slot_mut-held-requires : goal.slot_mut-held-requires
slot_mut-held-requires g c = (search rules, lent _ c.requires.lock)

pub returns-clause-did : goal.returns-clause-did
returns-clause-did g c = became _ _ c.slot_mut-held.result.now c.slot_mut-held.result.now c.slot_mut-held.ensures.value (refl, c.audit.ensures.sound, c.seen.ensures.0, c.seen.ensures.1, c.seen.ensures.2)
