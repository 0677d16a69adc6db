use Rattle.std.proofs.Common.{rules, ◌∷◌, [], refl, ap, subst, ◌∙◌}
use Rattle.std.proofs.lemmas.Option.{MatchOption-at_some}
use Rattle.strm_laws.specs.Pair.{PairState}
use Rattle.strm_locks.specs.Ends.{OpenedAs}
use Rattle.strm_locks.specs.Rules.{Mine}
use Rattle.strm_locks.proofs.Calling.{seated}
use Rattle.strm_locks.proofs.lock.Lock.try_open.Goals as goal

pub invariant_of-result : goal.invariant_of-result
invariant_of-result g c = let o = MatchOption-at_some _ _ _ c.in-Some.is c.try_open_by.ensures.opened in
    let t = subst (λ x. OpenedAs c.args.self.now.sizes o.0 o.1 c.try_open_by.new.out.items c.in-Some.opened.1 c.try_open_by.new.seat.me x) c.in-Ok.is o.3 in
    seated _ _ _ _ _ _ t.3 (search rules)

pub returns-in-Ok : goal.returns-in-Ok
returns-in-Ok g c = let o = MatchOption-at_some _ _ _ c.in-Some.is c.try_open_by.ensures.opened in
    let t = subst (λ x. OpenedAs c.args.self.now.sizes o.0 o.1 c.try_open_by.new.out.items c.in-Some.opened.1 c.try_open_by.new.seat.me x) c.in-Ok.is o.3 in record {
      here = λ j. record { table = (c.try_open_by.ensures.same.0 ∙ c.sit-seat.ensures.0) j; sizes = ap (λ (m : Mine). m.0.sizes) t.3 j };
      caller = c.of.ensures;
      parts = refl;
      found = o.0;
      left = o.1;
      met = ap (λ (m : Mine). m.0.met) t.3;
      sound = o.2;
      new = t.0;
      answer = _;
      bytes = c.try_open_by.new.out.items;
      makes = t.1;
      told = t.2;
      made = ap (λ (m : Mine). m.0.made) t.3;
    }

pub returns-in-Err : goal.returns-in-Err
returns-in-Err g c = let o = MatchOption-at_some _ _ _ c.in-Some.is c.try_open_by.ensures.opened in
    let t = subst (λ x. OpenedAs c.args.self.now.sizes o.0 o.1 c.try_open_by.new.out.items c.in-Some.opened.1 c.try_open_by.new.seat.me x) c.in-Err.is o.3 in (
      (λ j. record { table = (c.try_open_by.ensures.same.0 ∙ c.sit-seat.ensures.0) j; sizes = ap (λ (m : Mine). m.0.sizes) t.2 j }),
      o.0,
      ap (λ (m : Mine). m.0.met) t.2 ∙ ap (λ (q : PairState). o.0 ∷ q ∷ []) t.0,
      o.2,
      t.1,
      refl,
    )
