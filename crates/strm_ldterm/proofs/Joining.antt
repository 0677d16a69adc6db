-- One stage of a turn after the other, on a store.
use Rattle.strm_ldterm.proofs.Prelude.{ℕ, ◌≡◌, ◌≤◌, ◌+◌, Bool, true, false, cond, List, [], ◌∷◌, ◌++◌, refl, sym, ap, subst, ◌∙◌, arith}
use Rattle.strm_ldterm.specs.Prelude.{Fates, Note, Fate, counted_with, tallied, is_none_left, StoreValue, IsStore, Sent, AreIn, parcels_in}
use Rattle.strm_ldterm.specs.Prelude.{times_sent, AreChains}
use Rattle.strm_types.specs.Ldterms as ldterms
use Rattle.strm_ldterm.specs.declared.ldterm.Stage.{Stage}
use Rattle.strm_ldterm.specs.Stands.{ldterm_in, keeps, stage_in, IsHeld, Paired}
use Rattle.strm_ldterm.specs.Does.{Proceeds}
use Rattle.strm_ldterm.specs.Turns.{one_after}
use Rattle.strm_ldterm.proofs.Turning.{Acts}

tallied-joined : (a b : List (Fate ℕ)) (f : Fates) → tallied (a ++ b) f ≡ tallied b (tallied a f)
tallied-joined [] b f = refl
tallied-joined (x ∷ a) b f = tallied-joined a b (counted_with x f)

pub parcels-none : (s : StoreValue) (sent : List Sent) → is_none_left (parcels_in s sent) ≡ is_none_left sent
unfolding parcels_in
parcels-none s [] = refl
parcels-none s (x ∷ more) = refl

-- more blocks may be said to be taken
pub takes-more : (s0 s : StoreValue) (x0 x : Paired) (k n : ℕ) (notes : List Note) (sent : List Sent) (t0 t : Fates) (is : Acts) → k ≤ n → Proceeds s0 s x0 x k notes sent t0 t is → Proceeds s0 s x0 x n notes sent t0 t is
takes-more s0 s x0 x k n notes sent t0 t is few a = record {
  state = a.state;
  noted = a.noted;
  parcels = a.parcels;
  told = a.told;
  held = a.held;
  own = a.own;
  chains = a.chains;
  hands = a.hands;
  mblks = (let c = a.mblks in omega arith);
  dblks = (let c = a.dblks in omega arith);
  pool = a.pool;
}

module _ (s0 s : StoreValue) (x0 x : Paired) (k : ℕ) (notes : List Note) (t0 t : Fates) (is : Acts) where
  -- what is sent ends it
  pub sent-ends : (sent : List Sent) (next : ldterms.Discipline ℕ → Acts) → is_none_left sent ≡ false → Proceeds s0 s x0 x k notes sent t0 t is → Proceeds s0 s x0 x k notes sent t0 t (one_after is next)
  sent-ends sent next some a =
      let same : is ≡ one_after is next = ap (λ v. cond {A = Acts} v (let u = next is.state in record { state = u.state; notes = is.notes ++ u.notes; sent = u.sent; gone = is.gone ++ u.gone }) is)
      (sym (sym (ap is_none_left a.parcels) ∙ parcels-none s sent ∙ some)) in
      subst (Proceeds s0 s x0 x k notes sent t0 t) same a

  module _ (st : IsStore s) (a : Proceeds s0 s x0 x k notes [] t0 t is) where
    -- nothing was sent, and more may follow
    pub nothing-sent : is_none_left is.sent ≡ true
    nothing-sent = sym (ap is_none_left a.parcels) ∙ parcels-none s []

    pub still-kept : AreIn s0 (λ _. 0) (keeps x0) → AreIn s (λ _. 0) (keeps x)
    unfolding times_sent
    still-kept can = record { apart = λ i. let c = a.hands.counts i in let b = can.apart i in omega arith }

    pub proceeds-joined : (s' : StoreValue) (x' : Paired) (j : ℕ) (notes' : List Note) (sent' : List Sent) (t' : Fates) (next : ldterms.Discipline ℕ → Acts)
        → Proceeds s s' x x' j notes' sent' t t' (next (ldterm_in s x)) → Proceeds s0 s' x0 x' (k + j) (notes ++ notes') sent' t0 t' (one_after is next)
    unfolding times_sent
    proceeds-joined s' x' j notes' sent' t' next b =
        let joined : Acts → Acts = λ u. record { state = u.state; notes = is.notes ++ u.notes; sent = u.sent; gone = is.gone ++ u.gone } in
        let same : joined (next (ldterm_in s x)) ≡ one_after is next =
        ap (λ p. joined (next p)) a.state ∙ ap (λ v. cond {A = Acts} v (joined (next is.state)) is) (sym nothing-sent) in
        subst (Proceeds s0 s' x0 x' (k + j) (notes ++ notes') sent' t0 t') same (record {
          state = b.state;
          noted = ap (λ ns. ns ++ notes') a.noted ∙ ap (λ ns. is.notes ++ ns) b.noted;
          parcels = b.parcels;
          told = b.told ∙ ap (tallied (next (ldterm_in s x)).gone) a.told ∙ sym (tallied-joined is.gone (next (ldterm_in s x)).gone t0);
          held = b.held;
          own = record {
            lists = λ i none. b.own.lists i (a.own.owns_same i ∙ none) ∙ a.own.lists i none;
            owns_same = λ i. b.own.owns_same i ∙ a.own.owns_same i;
          };
          chains = b.chains;
          hands = record {
            counts = λ i. let c = a.hands.counts i in let d = b.hands.counts i in omega arith;
            others = λ i gone kept some.
                let c = a.hands.counts i in let few = st.apart i in
                b.hands.others i refl (omega arith) (omega arith) ∙ a.hands.others i refl kept some;
          };
          mblks = (let c = a.mblks in let d = b.mblks in omega arith);
          dblks = (let c = a.dblks in let d = b.dblks in omega arith);
          pool = record { mblks = b.pool.mblks ∙ a.pool.mblks; dblks = b.pool.dblks ∙ a.pool.dblks };
        })

module _ (s0 s : StoreValue) (x0 x : Paired) (k : ℕ) (notes : List Note) (sent : List Sent) (t0 t : Fates) (is : Acts) where
  -- It is of no matter at which stage it begins, and whether LNEXT stands before.
  pub from-other : (lnext : Bool) (stage : Stage) → Proceeds s0 s (record x0 { after_lnext = lnext; stage = stage }) x k notes sent t0 t is → Proceeds s0 s x0 x k notes sent t0 t is
  from-other lnext stage a = record {
    state = a.state;
    noted = a.noted;
    parcels = a.parcels;
    told = a.told;
    held = a.held;
    own = record { lists = a.own.lists; owns_same = a.own.owns_same };
    chains = a.chains;
    hands = record { counts = a.hands.counts; others = a.hands.others };
    mblks = a.mblks;
    dblks = a.dblks;
    pool = a.pool;
  }

  -- and behind it the byte stands at another stage
  pub to-stage : (stage : Stage) → Proceeds s0 s x0 x k notes sent t0 t is → Proceeds s0 s x0 (record x { stage = stage }) k notes sent t0 t (record is { state = record is.state { stage = stage_in stage } })
  to-stage stage a = record {
    state = ap (λ (p : ldterms.Discipline ℕ). record p { stage = stage_in stage }) a.state;
    noted = a.noted;
    parcels = a.parcels;
    told = a.told;
    held = record { read = a.held.read; write = a.held.write; apart = a.held.apart; work = a.held.work; gathers = a.held.gathers; echoes = a.held.echoes; once_each = a.held.once_each };
    own = record { lists = a.own.lists; owns_same = a.own.owns_same };
    chains = a.chains;
    hands = record { counts = a.hands.counts; others = a.hands.others };
    mblks = a.mblks;
    dblks = a.dblks;
    pool = a.pool;
  }

  -- and something more is noted
  pub with-notes : (more : List Note) → Proceeds s0 s x0 x k notes sent t0 t is → Proceeds s0 s x0 x k more sent t0 t (record is { notes = more })
  with-notes more a = record {
    state = a.state;
    noted = refl;
    parcels = a.parcels;
    told = a.told;
    held = a.held;
    own = a.own;
    chains = a.chains;
    hands = a.hands;
    mblks = a.mblks;
    dblks = a.dblks;
    pool = a.pool;
  }

-- nothing has happened
pub stays-so : (s : StoreValue) (x : Paired) (t : Fates) → IsHeld s x → Proceeds s s x x 0 [] [] t t (ldterms.sends [] (ldterm_in s x))
unfolding times_sent parcels_in AreChains
stays-so s x t held = record {
  state = refl;
  noted = refl;
  parcels = refl;
  told = refl;
  held = held;
  own = record { lists = λ k none. refl; owns_same = λ k. refl };
  chains = tt;
  hands = record { counts = λ i. refl; others = λ i gone kept some. refl };
  mblks = omega arith;
  dblks = omega arith;
  pool = record { mblks = refl; dblks = refl };
}
