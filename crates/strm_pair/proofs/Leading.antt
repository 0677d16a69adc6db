-- What steps lead to, one after the other.
use Rattle.strm_pair.proofs.Prelude.{ℕ, List, [], ◌++◌, refl, sym, ap, subst, ◌∙◌, tallied-append}
use Rattle.strm_pair.specs.Prelude.{Fates, Carried, Fate, tallied, AreIdle, State, StoreValue}
use Rattle.strm_pair.specs.declared.streams.Streams.{Streams}
use Rattle.strm_pair.specs.Effects.{AreAtRest, Becomes, Leads}
use Rattle.strm_pair.specs.Enabling.{AreFewEnabled}
use Rattle.strm_pair.specs.Pairs.{state_in, AreHeld, SamePool}

pub pool-both : (s t u : StoreValue) → SamePool s t → SamePool t u → SamePool s u
pool-both s t u first second = record { mblks = second.mblks ∙ first.mblks; dblks = second.dblks ∙ first.dblks }

-- where nothing changes
pub leads-nowhere : (s : StoreValue) (p : Streams) (f : Fates) → AreHeld s p → Leads s s p f f (state_in s p) []
leads-nowhere s p f held = record { state = refl; tells = refl; held = held; pool = record { mblks = refl; dblks = refl } }

-- two steps
pub leads-both : (s t u : StoreValue) (p q : Streams) (f g h : Fates) (a b : Carried ℕ (State ℕ)) → Leads s t p f g a.state a.gone → Leads t u q g h b.state b.gone
    → Leads s u q f h b.state (a.gone ++ b.gone)
leads-both s t u p q f g h a b first second = record {
  state = second.state;
  tells = second.tells ∙ ap (tallied b.gone) first.tells ∙ sym (tallied-append a.gone b.gone f);
  held = second.held;
  pool = pool-both s t u first.pool second.pool;
}

-- the second of what the first led to
pub leads-then : (step : State ℕ → Carried ℕ (State ℕ)) (s t u : StoreValue) (p q : Streams) (f g h : Fates) (a : Carried ℕ (State ℕ)) → Leads s t p f g a.state a.gone
    → Leads t u q g h (step (state_in t p)).state (step (state_in t p)).gone → Leads s u q f h (step a.state).state (a.gone ++ (step a.state).gone)
leads-then step s t u p q f g h a first second =
    leads-both s t u p q f g h a (step a.state) first (subst (λ x. Leads t u q g h (step x).state (step x).gone) first.state second)

-- nothing goes in the second
pub leads-quietly : (step : State ℕ → State ℕ) (s t u : StoreValue) (p q : Streams) (f g : Fates) (a : Carried ℕ (State ℕ)) → Leads s t p f g a.state a.gone
    → Leads t u q g g (step (state_in t p)) [] → Leads s u q f g (step a.state) a.gone
leads-quietly step s t u p q f g a first second = record {
  state = second.state ∙ ap step first.state;
  tells = first.tells;
  held = second.held;
  pool = pool-both s t u first.pool second.pool;
}

-- the streams alone change behind it
pub leads-becoming : (step : State ℕ → State ℕ) (s t : StoreValue) (p q : Streams) (f g : Fates) (a : Carried ℕ (State ℕ)) → Leads s t p f g a.state a.gone → Becomes p q step
    → Leads s t q f g (step a.state) a.gone
leads-becoming step s t p q f g a leads becomes = record {
  state = becomes.state t ∙ ap step leads.state;
  tells = leads.tells;
  held = becomes.held t leads.held;
  pool = leads.pool;
}

-- the streams alone change
pub leads-alone : (step : State ℕ → State ℕ) (s : StoreValue) (p q : Streams) (f : Fates) → AreHeld s p → Becomes p q step → Leads s s q f f (step (state_in s p)) []
leads-alone step s p q f held becomes = leads-becoming step s s p q f f (record { state = state_in s p; gone = [] }) (leads-nowhere s p f held) becomes

-- the streams are at rest behind it where nothing of a turn is under way and enabled queues are there
pub rests-behind : (s t : StoreValue) (p : Streams) (f g : Fates) (led : State ℕ) (gone : List (Fate ℕ)) → Leads s t p f g led gone → AreIdle led
    → AreFewEnabled led → AreAtRest t p
rests-behind s t p f g led gone leads idle few = record {
  held = leads.held;
  idle = subst AreIdle (sym leads.state) idle;
  enabled = subst AreFewEnabled (sym leads.state) few;
}
