use Rattle.std.proofs.Common.{◌≡◌, [], ◌∷◌, refl, sym, ap, ◌∙◌, subst}
use Rattle.std.proofs.lemmas.Bool.Decides.{when_true}
use Rattle.strm_laws.specs.Pair.{PairState}
use Rattle.strm_locks.specs.Books.{Kept}
use Rattle.strm_locks.specs.Rules.{Mine, fresh, holding, leaving}
use Rattle.strm_locks.specs.Sounds.{IsSound}
use Rattle.strm_locks.proofs.lock.Lock.try_look.Goals as goal

pub pass_by-requires-clause-lock : goal.pass_by-requires-clause-lock
pass_by-requires-clause-lock g c = let had = when_true _ _ c.if-not-try_take.false c.try_take.ensures.lock in let k = had.0 in let h = had.1 in
    let did = c.seen_held-answer.ensures.did k (ap (λ (m : Mine). m.1) h.seen) in
    (did.0, did.1, ap (λ (x : Kept). x.book) did.2.0 ∙ sym (ap (λ v. v.found) (c.seen_held-answer.ensures.same.1 ∙ ap (λ (m : Mine). m.0) h.seen)), ap (λ (x : Kept). x.pair.limits) did.2.0 ∙ h.sized ∙ ap (λ (m : Mine). m.0.sizes) c.sit-seat.ensures.1)

pub returns : goal.returns
returns g c = let had = when_true _ _ c.if-not-try_take.false c.try_take.ensures.lock in let k = had.0 in let h = had.1 in
    let did = c.seen_held-answer.ensures.did k (ap (λ (m : Mine). m.1) h.seen) in
    let is : c.seen_held-answer.new.seat.me.0 ≡ holding (fresh c.args.self.now.sizes) k = c.seen_held-answer.ensures.same.1 ∙ ap (λ (m : Mine). m.0) h.seen ∙ ap (λ (m : Mine). holding m.0 k) c.sit-seat.ensures.1 in
    let now = c.pass_by.ensures.met did.0 did.1 ∙ ap (λ v. (leaving v did.0.pair, [])) is in (
      did.2.2,
      (
        (λ j. record { table = (c.pass_by.ensures.same.0 ∙ c.seen_held-answer.ensures.same.0.0 ∙ c.try_take.ensures.same.0 ∙ c.sit-seat.ensures.0) j; sizes = (ap (λ (m : Mine). m.0.sizes) now) j }),
        ap (λ (m : Mine). m.0.met) now ∙ ap (λ (x : Kept). k.pair ∷ x.pair ∷ []) did.2.0 ∙ ap (λ (p : PairState). p ∷ p ∷ []) (sym did.2.3),
        (subst IsSound (sym did.2.3) did.2.1, ap (λ (p : PairState). p.limits) did.2.3 ∙ h.sized ∙ ap (λ (m : Mine). m.0.sizes) c.sit-seat.ensures.1),
        refl,
      ),
      did.2.4,
    )
