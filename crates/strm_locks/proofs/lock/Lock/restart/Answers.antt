use Rattle.std.proofs.Common.{◌≡◌, [], ◌∷◌, refl, sym, ap, ◌∙◌}
use Rattle.strm_laws.specs.Pair.{PairState}
use Rattle.strm_locks.specs.Rules.{Mine, fresh, holding, leaving}
use Rattle.strm_locks.proofs.lock.Lock.restart.Goals as goal

pub pass-requires-clause-lock : goal.pass-requires-clause-lock
pass-requires-clause-lock g c = let k = c.take.ensures.lock.0 in let h = c.take.ensures.lock.1 in
    let did = c.restart_held.ensures.did k (ap (λ (m : Mine). m.1) h.seen) in
    (did.0, did.1, did.2.0 ∙ sym (ap (λ v. v.found) (c.restart_held.ensures.same.1 ∙ ap (λ (m : Mine). m.0) h.seen)), ap (λ (p : PairState). p.limits) did.2.2 ∙ h.sized ∙ ap (λ (m : Mine). m.0.sizes) c.sit-seat.ensures.1)

pub returns : goal.returns
returns g c = let k = c.take.ensures.lock.0 in let h = c.take.ensures.lock.1 in
    let did = c.restart_held.ensures.did k (ap (λ (m : Mine). m.1) h.seen) in
    let is : c.restart_held.new.seat.me.0 ≡ holding (fresh c.args.self.now.sizes) k = c.restart_held.ensures.same.1 ∙ ap (λ (m : Mine). m.0) h.seen ∙ ap (λ (m : Mine). holding m.0 k) c.sit-seat.ensures.1 in
    let now = c.pass.ensures.met did.0 did.1 ∙ ap (λ v. (leaving v did.0.pair, [])) is in (
      (λ j. record { table = (c.pass.ensures.same.0 ∙ c.restart_held.ensures.same.0.0 ∙ c.take.ensures.same.0 ∙ c.sit-seat.ensures.0) j; sizes = (ap (λ (m : Mine). m.0.sizes) now) j }),
      k.pair,
      ap (λ (m : Mine). m.0.met) now ∙ ap (λ (p : PairState). k.pair ∷ p ∷ []) did.2.2,
      (did.2.1, h.sized ∙ ap (λ (m : Mine). m.0.sizes) c.sit-seat.ensures.1),
      refl,
    )
