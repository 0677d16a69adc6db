-- Stages of a turn, one after the other.
use Rattle.strm_ldterm.proofs.Prelude.{ℕ, ◌≡◌, ◌<◌, ◌+◌, List, [], ◌∷◌, ◌++◌, refl, sym, ap, ◌∙◌, arith}
use Rattle.strm_ldterm.specs.Prelude.{Fates, Acted, Fate, counted_with, tallied, sends, both, StoreValue, IsStore, in_hand, Sent, AreIn, times_sent}
use Rattle.strm_ldterm.specs.Prelude.{parcels_in, AreChains}
use Rattle.strm_types.specs.Ldterms as ldterms
use Rattle.strm_frame.specs.Outboxes.{parcel_in}
use Rattle.strm_frame.proofs.Handing.{parcels-same, chains-same}
use Rattle.strm_ldterm.specs.declared.ldterm.Stage.{Stage}
use Rattle.strm_ldterm.specs.Stands.{ldterm_in, stage_in, keeps, Paired}
use Rattle.strm_ldterm.specs.Does.{Alters, Proceeds}

tallied-joined : (a b : List (Fate ℕ)) (f : Fates) → tallied (a ++ b) f ≡ tallied b (tallied a f)
tallied-joined [] b f = refl
tallied-joined (x ∷ a) b f = tallied-joined a b (counted_with x f)

pub times-joined : (i : ℕ) (a b : List Sent) → times_sent i (a ++ b) ≡ times_sent i a + times_sent i b
unfolding times_sent
times-joined i [] b = omega arith
times-joined i (x ∷ a) b = let ih = times-joined i a b in omega arith

pub parcels-joined : (s : StoreValue) (a b : List Sent) → parcels_in s (a ++ b) ≡ parcels_in s a ++ parcels_in s b
unfolding parcels_in
parcels-joined s [] b = refl
parcels-joined s (x ∷ a) b = ap (λ ps. parcel_in s x ∷ ps) (parcels-joined s a b)

pub chains-joined : (s : StoreValue) (a b : List Sent) → AreChains s a → AreChains s b → AreChains s (a ++ b)
unfolding AreChains
chains-joined s [] b first second = second
chains-joined s (x ∷ a) b first second = (first.0, chains-joined s a b first.1 second)

-- a stage that only alters the module
pub proceeds-alters : (s t : StoreValue) (x y : Paired) (f : Fates) (p : ldterms.Discipline ℕ) → Alters s t x y → ldterm_in t y ≡ p → Proceeds s t x y 0 [] [] f f (sends [] p)
unfolding times_sent parcels_in AreChains
proceeds-alters s t x y f p alters is = record {
  state = is;
  noted = refl;
  parcels = refl;
  told = refl;
  held = alters.held;
  own = alters.own;
  chains = tt;
  hands = record { counts = λ i. let c = alters.hands.counts i in omega arith; others = λ i gone kept some. alters.hands.others i gone kept some };
  mblks = (let m = alters.frees.mblks in omega arith);
  dblks = (let m = alters.frees.dblks in omega arith);
  pool = alters.pool;
}

-- what is kept is in hand still
pub proceeds-kept : (s t : StoreValue) (x y : Paired) (n : ℕ) (a : List Sent) (f f' : Fates) (is : Acted ℕ (ldterms.Discipline ℕ)) → AreIn s (λ _. 0) (keeps x) → Proceeds s t x y n [] a f f' is → AreIn t (λ _. 0) (keeps y)
proceeds-kept s t x y n a f f' is kept did = record { apart = λ i. let c = did.hands.counts i in let k = kept.apart i in omega arith }

-- one stage and then another one
pub proceeds-both : (s t u : StoreValue) (x y z : Paired) (n m : ℕ) (a b : List Sent) (f f1 f2 : Fates) (is : Acted ℕ (ldterms.Discipline ℕ)) (next : ldterms.Discipline ℕ → Acted ℕ (ldterms.Discipline ℕ)) → IsStore t
    → AreIn s (λ _. 0) (keeps x) → Proceeds s t x y n [] a f f1 is → Proceeds t u y z m [] b f1 f2 (next (ldterm_in t y)) → Proceeds s u x z (n + m) [] (a ++ b) f f2 (both is next)
proceeds-both s t u x y z n m a b f f1 f2 is next st kept first second =
    let stays : (i : ℕ) → 0 < times_sent i a → in_hand u i ≡ in_hand t i =
    λ i some. (let c = first.hands.counts i in let k = kept.apart i in let few = st.apart i in second.hands.others i refl (omega arith) (omega arith)) in
    record {
      state = second.state ∙ ap (λ p. (next p).state) first.state;
      noted = ap (λ l. l ++ []) first.noted ∙ ap (λ l. is.notes ++ l) second.noted ∙ ap (λ p. is.notes ++ (next p).notes) first.state;
      parcels =
          parcels-joined u a b ∙ ap (λ l. l ++ parcels_in u b) (parcels-same t u a stays ∙ first.parcels)
          ∙ ap (λ l. is.sent ++ l) second.parcels ∙ ap (λ p. is.sent ++ (next p).sent) first.state;
      told =
          second.told ∙ ap (λ g. tallied (next (ldterm_in t y)).gone g) first.told ∙ ap (λ p. tallied (next p).gone (tallied is.gone f)) first.state
          ∙ sym (tallied-joined is.gone (next is.state).gone f);
      held = second.held;
      own = record {
        lists = λ k none. second.own.lists k (first.own.owns_same k ∙ none) ∙ first.own.lists k none;
        owns_same = λ k. second.own.owns_same k ∙ first.own.owns_same k;
      };
      chains = chains-joined u a b (chains-same t u a stays first.chains) second.chains;
      hands = record {
        counts = λ i. let c = first.hands.counts i in let d = second.hands.counts i in let e = times-joined i a b in omega arith;
        others = λ i gone none some.
            let c = first.hands.counts i in let few = st.apart i in
            second.hands.others i refl (omega arith) (omega arith) ∙ first.hands.others i refl none some;
      };
      mblks = (let a = first.mblks in let b = second.mblks in omega arith);
      dblks = (let a = first.dblks in let b = second.dblks in omega arith);
      pool = record { mblks = second.pool.mblks ∙ first.pool.mblks; dblks = second.pool.dblks ∙ first.pool.dblks };
    }

-- the stage of a turn is another one
pub proceeds-staged : (s t : StoreValue) (x y : Paired) (n : ℕ) (a : List Sent) (f f' : Fates) (is : Acted ℕ (ldterms.Discipline ℕ)) (stage : Stage) → Proceeds s t x y n [] a f f' is
    → Proceeds s t x (record y { stage = stage }) n [] a f f' (record is { state = record is.state { stage = stage_in stage } })
proceeds-staged s t x y n a f f' is stage did = record {
  state = ap (λ (p : ldterms.Discipline ℕ). record p { stage = stage_in stage }) did.state;
  noted = did.noted;
  parcels = did.parcels;
  told = did.told;
  held = record {
    read = did.held.read;
    write = did.held.write;
    apart = did.held.apart;
    work = did.held.work;
    gathers = did.held.gathers;
    echoes = did.held.echoes;
    once_each = did.held.once_each;
  };
  own = record { lists = did.own.lists; owns_same = did.own.owns_same };
  chains = did.chains;
  hands = record { counts = did.hands.counts; others = did.hands.others };
  mblks = did.mblks;
  dblks = did.dblks;
  pool = did.pool;
}
