use Rattle.std.proofs.Common.{◌≡◌, [], sym, ap, ◌∙◌, subst}
use Rattle.strm_locks.specs.Rules.{Mine, fresh, holding, grown}
use Rattle.strm_locks.specs.Shares.{MayGive}
use Rattle.strm_locks.proofs.Calling.{opened_as, opens_gives, opens_sized}
use Rattle.std.proofs.lemmas.Bool.Decides.{when_true}
use Rattle.strm_locks.proofs.lock.Lock.try_open_by.Goals as goal

pub give-requires-clause-lock : goal.give-requires-clause-lock
give-requires-clause-lock g c = let had = when_true _ _ c.if-not-try_take.false c.try_take.ensures.lock in let k = had.0 in let h = had.1 in
    let did = c.open_held-answer.ensures.did k (ap (λ (m : Mine). m.1) h.seen) in
    let is : c.open_held-answer.new.seat.me.0 ≡ holding (fresh c.args.self.now.sizes) k = c.open_held-answer.ensures.same.1 ∙ ap (λ (m : Mine). m.0) h.seen ∙ ap (λ (m : Mine). holding m.0 k) c.requires.fresh in (
      did.0,
      did.1,
      subst (λ w. MayGive w did.0.book) (sym is) (opens_gives _ k c.open_held-answer.new.out.items did.0 c.open_held-answer.result did.2),
      opens_sized k _ _ did.0 did.2.answer ∙ h.sized ∙ ap (λ (m : Mine). m.0.sizes) c.requires.fresh,
    )

pub returns-clause-opened : goal.returns-clause-opened
returns-clause-opened g c = let had = when_true _ _ c.if-not-try_take.false c.try_take.ensures.lock in let k = had.0 in let h = had.1 in
    let did = c.open_held-answer.ensures.did k (ap (λ (m : Mine). m.1) h.seen) in
    let is : c.open_held-answer.new.seat.me.0 ≡ holding (fresh c.args.self.now.sizes) k = c.open_held-answer.ensures.same.1 ∙ ap (λ (m : Mine). m.0) h.seen ∙ ap (λ (m : Mine). holding m.0 k) c.requires.fresh in (
      k.pair,
      did.0.pair,
      (did.2.sound, h.sized ∙ ap (λ (m : Mine). m.0.sizes) c.requires.fresh),
      opened_as _ k c.open_held-answer.new.out.items did.0 c.open_held-answer.result c.give.new.seat.me did.2 h.knows.unopened
          (c.give.ensures.told did.0 did.1 ∙ ap (λ w. (grown w w.found did.0, [])) is),
    )
