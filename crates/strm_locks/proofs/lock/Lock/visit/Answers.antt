use Rattle.std.proofs.Common.{◌≡◌, [], ◌∷◌, ◌++◌, sym, ap, ◌∙◌}
use Rattle.strm_locks.specs.Books.{LockId}
use Rattle.strm_locks.specs.Rules.{Mine, holding, leaving}
use Rattle.strm_locks.specs.Shares.{lock_of}
use Rattle.strm_locks.specs.Turns.{Posted}
use Rattle.strm_locks.proofs.Calling.{posted_on, visits_sized}
use Rattle.strm_locks.proofs.lock.Lock.visit.Goals as goal

pub pass-requires-clause-lock : goal.pass-requires-clause-lock
pass-requires-clause-lock g c = let k = c.take.ensures.lock.0 in let h = c.take.ensures.lock.1 in
    let did = c.turn_held-made.ensures.did k (ap (λ (m : Mine). m.1) h.seen) in (
      did.0,
      did.1,
      did.2.0 ∙ sym (ap (λ v. v.found) (c.turn_held-made.ensures.same.1 ∙ ap (λ (m : Mine). m.0) h.seen)),
      visits_sized _ _ _ did.2.2 ∙ h.sized ∙ ap (λ (l : LockId). l.sizes) (ap (λ (x : Posted). x.lock) c.post.view_is ∙ c.requires),
    )

pub invariant_of-post : goal.invariant_of-post
invariant_of-post g c = let i = c.post.inside in let k = c.take.ensures.lock.0 in let h = c.take.ensures.lock.1 in
    let did = c.turn_held-made.ensures.did k (ap (λ (m : Mine). m.1) h.seen) in
    let is : c.turn_held-made.new.seat.me.0 ≡ holding i.seat.me.0 k = c.turn_held-made.ensures.same.1 ∙ ap (λ (m : Mine). m.0) h.seen in
    posted_on i.seat.me k did.0.pair c.pass.new.seat.me c.post.invariant (c.pass.ensures.met did.0 did.1 ∙ ap (λ v. (leaving v did.0.pair, [])) is)

pub returns : goal.returns
returns g c = let i = c.post.inside in let k = c.take.ensures.lock.0 in let h = c.take.ensures.lock.1 in
    let did = c.turn_held-made.ensures.did k (ap (λ (m : Mine). m.1) h.seen) in
    let is : c.turn_held-made.new.seat.me.0 ≡ holding i.seat.me.0 k = c.turn_held-made.ensures.same.1 ∙ ap (λ (m : Mine). m.0) h.seen in
    let now = c.pass.ensures.met did.0 did.1 ∙ ap (λ v. (leaving v did.0.pair, [])) is in
    let lock : lock_of c.pass.new.seat ≡ c.args.post.now.lock = (λ j. record { table = (c.pass.ensures.same.0 ∙ c.turn_held-made.ensures.same.0.0 ∙ c.take.ensures.same.0) j; sizes = ap (λ (m : Mine). m.0.sizes) now j })
    ∙ ap (λ (x : Posted). x.lock) c.post.view_is in
    let met : c.pass.new.seat.me.0.met ≡ c.args.post.now.met ++ k.pair ∷ [] ++ did.0.pair ∷ [] = ap (λ (m : Mine). m.0.met) now ∙ ap (λ (x : Posted). x.met ++ k.pair ∷ [] ++ did.0.pair ∷ []) c.post.view_is in record {
      found = k.pair;
      left = did.0.pair;
      sound = (did.2.1, h.sized ∙ ap (λ (x : Posted). x.lock.sizes) c.post.view_is);
      visits = did.2.2;
      met = λ j. record { lock = lock j; met = met j };
    }
