use Rattle.std.proofs.Common.{rules}
use Rattle.strm_locks.proofs.Calling.{became, lent}
use Rattle.strm_locks.proofs.lock.Lock.open_held.Goals as goal

pub slot_mut-held-requires : goal.slot_mut-held-requires
slot_mut-held-requires g c = (search rules, lent _ c.requires.lock)

pub returns-clause-did : goal.returns-clause-did
returns-clause-did g c = became _ _ c.slot_mut-held.result.now c.open.new.self c.slot_mut-held.ensures.value record { sound = c.audit.ensures.sound; answer = c.open.ensures.answer; grew = record { below = c.open.ensures.below; fits = c.open.ensures.fits; growth = c.open.ensures.growth } }
