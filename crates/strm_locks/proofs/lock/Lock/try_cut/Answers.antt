use Rattle.std.proofs.Common.{◌≡◌, [], refl, sym, ap, ◌∙◌}
use Rattle.strm_locks.specs.Rules.{Mine, fresh, holding, leaving}
use Rattle.strm_locks.proofs.Calling.{cuts_sized}
use Rattle.std.proofs.lemmas.Bool.Decides.{when_true}
use Rattle.strm_locks.proofs.lock.Lock.try_cut.Goals as goal

pub pass_by-requires-clause-lock : goal.pass_by-requires-clause-lock
pass_by-requires-clause-lock g c = let had = when_true _ _ c.if-not-try_take.false c.try_take.ensures.lock in let k = had.0 in let h = had.1 in
    let did = c.cut_held-trace.ensures.did k (ap (λ (m : Mine). m.1) h.seen) in
    (did.0, did.1, did.2.0 ∙ sym (ap (λ v. v.found) (c.cut_held-trace.ensures.same.1 ∙ ap (λ (m : Mine). m.0) h.seen)), cuts_sized _ _ _ did.2.2 ∙ h.sized ∙ ap (λ (m : Mine). m.0.sizes) c.sit-seat.ensures.1)

pub returns : goal.returns
returns g c = let had = when_true _ _ c.if-not-try_take.false c.try_take.ensures.lock in let k = had.0 in let h = had.1 in
    let did = c.cut_held-trace.ensures.did k (ap (λ (m : Mine). m.1) h.seen) in
    let is : c.cut_held-trace.new.seat.me.0 ≡ holding (fresh c.args.self.now.sizes) k = c.cut_held-trace.ensures.same.1 ∙ ap (λ (m : Mine). m.0) h.seen ∙ ap (λ (m : Mine). holding m.0 k) c.sit-seat.ensures.1 in
    let now = c.pass_by.ensures.met did.0 did.1 ∙ ap (λ v. (leaving v did.0.pair, [])) is in (
      (λ j. record { table = (c.pass_by.ensures.same.0 ∙ c.cut_held-trace.ensures.same.0.0 ∙ c.try_take.ensures.same.0 ∙ c.sit-seat.ensures.0) j; sizes = (ap (λ (m : Mine). m.0.sizes) now) j }),
      k.pair,
      did.0.pair,
      ap (λ (m : Mine). m.0.met) now,
      (did.2.1, h.sized ∙ ap (λ (m : Mine). m.0.sizes) c.sit-seat.ensures.1),
      did.2.2,
      refl,
    )
