use Rattle.std.proofs.Common.{rules, ◌≡◌, ◌≢◌, sym, ap, ◌∙◌, subst}
use Rattle.strm_locks.specs.declared.end.TheConstants.{ALL_PARTS}
use Rattle.strm_locks.specs.Books.{Kept}
use Rattle.strm_locks.proofs.Calling.{became, first_of, lent}
use Rattle.strm_locks.proofs.lock.Lock.call_held.Goals as goal

pub slot_mut-held-requires : goal.slot_mut-held-requires
slot_mut-held-requires g c = (search rules, lent _ (c.requires.lock.0, c.requires.lock.1))

pub call_told-requires : goal.call_told-requires
call_told-requires g c = let k = c.requires.lock.0 in
    let is : c.slot_mut-held.result.now ≡ k = ap (first_of k) (sym c.slot_mut-held.ensures.value ∙ c.requires.lock.1) in
    record { «open» = subst (λ (x : Kept). x.book.left ≢ ALL_PARTS) (sym is) c.requires.lock.2 }

pub returns-clause-did : goal.returns-clause-did
returns-clause-did g c = became _ _ c.slot_mut-held.result.now c.call_told.new.self c.slot_mut-held.ensures.value
    record { sound = c.audit.ensures.sound; counted = c.audit.ensures.counted; answer = c.call_told.ensures.answer; grew = record { below = c.call_told.ensures.below; fits = c.call_told.ensures.fits; growth = c.call_told.ensures.growth } }
