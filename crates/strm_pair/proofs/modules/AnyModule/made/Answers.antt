-- Each kind is new, fits queues where it has some and fits none else, and keeps nothing.
use Rattle.strm_pair.proofs.Prelude.{◌≡◌, true, false, refl, sym, ap, ◌∙◌, subst, MatchOption, Option}
use Rattle.strm_pair.specs.Prelude.{OfLdterm, OfOwn, OfPtem, have_queues}
use Rattle.strm_types.specs.declared.names.ModuleName.TheVariants as names
use Rattle.strm_types.specs.Owns.{Own}
use Rattle.strm_laws.specs.Behaviours.{fresh_own}
use Rattle.strm_pair.proofs.MadeModules.{ldterm-fits, none-are}
use Rattle.strm_pair.proofs.modules.AnyModule.made.Goals as goal

pub returns-in-Ldterm : goal.returns-in-Ldterm
returns-in-Ldterm g c = rw c.in-Ldterm.is (record {
  known = refl;
  made = λ s. ap OfLdterm (c.new.ensures.state s);
  fresh = record {
    held = λ s queues has. ldterm-fits s c.new.result queues has (λ pair. c.new.ensures.held s pair);
    rests = c.new.ensures.rests;
  };
})

pub returns-in-Ptem : goal.returns-in-Ptem
returns-in-Ptem g c = rw c.in-Ptem.is (record {
  known = refl;
  made = λ s. ap OfPtem c.new-in-Ptem.ensures;
  fresh = record { held = λ s queues has. none-are queues has; rests = λ i. refl };
})

pub returns-in-Pckt : goal.returns-in-Pckt
returns-in-Pckt g c =
    rw c.in-Pckt.is (record { known = refl; made = λ s. refl; fresh = record { held = λ s queues has. none-are queues has; rests = λ i. refl } })

-- one of a user's own, where there are some of its number
pub returns-in-Some : goal.returns-in-Some
returns-in-Some g c =
    let K = g.M.Behaves.does in
    let made = subst (λ (o : Option Own). MatchOption o (K.knows c.in-Own.number ≡ false)
    (λ x. (K.knows c.in-Own.number ≡ true) × (x ≡ fresh_own K c.in-Own.number))) c.in-Some.is c.made.ensures in
    rw c.in-Own.is (record {
      known = made.0;
      made = λ s. ap OfOwn made.1;
      fresh = record { held = λ s queues has. has ∙ ap (λ (o : Own). have_queues (names.Own o.number)) (sym made.1); rests = λ i. refl };
    })

pub returns-in-None : goal.returns-in-None
returns-in-None g c =
    let K = g.M.Behaves.does in
    rw c.in-Own.is
    (subst (λ (o : Option Own). MatchOption o (K.knows c.in-Own.number ≡ false)
    (λ x. (K.knows c.in-Own.number ≡ true) × (x ≡ fresh_own K c.in-Own.number))) c.in-None.is c.made.ensures)
