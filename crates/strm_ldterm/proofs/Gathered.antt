-- Bytes that are gathered, in a message that is kept in hand: a new one, or one that grows.
use Rattle.strm_ldterm.proofs.Prelude.{ℕ, ◌≡◌, ◌≢◌, ◌<◌, ◌+◌, eqb, cond, List, [], ◌++◌, length, length-append, refl, sym, ap, subst, ◌∙◌, arith}
use Rattle.strm_ldterm.proofs.Prelude.{None, Some, sum_by-cons, in_hand-held_other, in_hand-changed_other, times-replaced, once-self}
use Rattle.strm_ldterm.specs.Prelude.{Fates, sends, Message, cells_of, data_message, Block, Held, StoreValue, IsStore, in_hand, list_at, held}
use Rattle.strm_ldterm.specs.Prelude.{times_in, token, InHand, once, AreIn, message_in, times_sent, parcels_in, AreChains}
use Rattle.strm_types.specs.Ldterms as ldterms
use Rattle.strm_ldterm.specs.Stands.{ldterm_in, times_kept, keeps, IsHeld, IsGathered, Paired}
use Rattle.strm_ldterm.specs.Does.{Proceeds}
use Rattle.strm_ldterm.specs.Frames.{ldterm-frame}
use Rattle.strm_ldterm.specs.Grown.{Grown, Begins}

-- a message that came
times-held : (s : StoreValue) (i : ℕ) (chain : List Block) (j : ℕ) → times_in j (held s i chain).hand ≡ once i j + times_in j s.hand
unfolding once
times-held s i chain j = sum_by-cons (λ (h : Held). cond {A = ℕ} (eqb h.name j) 1 0) (record { name = i; chain = chain }) s.hand

data-cells : (m : Message ℕ) (bytes : List ℕ) → m ≡ data_message bytes → cells_of m ≡ bytes
unfolding cells_of data_message
data-cells m bytes is = ap cells_of is

-- a new message
module _ (s t : StoreValue) (x : Paired) (m : InHand) (bytes : List ℕ) (f : Fates) (st : IsStore t) (held : IsHeld s (record x { gathered = None })) (can : AreIn s (λ _. 0) (keeps (record x { gathered = None })))
    (some : 0 < length bytes) (is : Begins s t (token m) bytes 1) where
  fresh-apart : (j : ℕ) → 0 < times_in j s.hand → token m ≢ j
  fresh-apart j some e = let w = ap (λ k. times_in k s.hand) e in let z = is.fresh in absurd (omega arith)

  new-stays : (j : ℕ) → 0 < times_in j s.hand → in_hand t j ≡ in_hand s j
  new-stays j some = ap (λ v. in_hand v j) is.after ∙ in_hand-held_other s (token m) j (in_hand t (token m)) (fresh-apart j some)

  new-comes : (j : ℕ) → times_in j t.hand ≡ once (token m) j + times_in j s.hand
  new-comes j = ap (λ v. times_in j v.hand) is.after ∙ times-held s (token m) (in_hand t (token m)) j

  new-framed : (ldterm_in t (record x { gathered = None }) ≡ ldterm_in s (record x { gathered = None })) × IsHeld t (record x { gathered = None })
  new-framed = ldterm-frame s t (record x { gathered = None }) (record {
    lists = λ k some. ap (λ v. list_at v k) is.after;
    mblks = ap (λ v. v.mblks) is.after;
    dblks = ap (λ v. v.dblks) is.after;
    kept = λ j some. let a = can.apart j in new-stays j (omega arith);
  }) held

  pub new-gathered : Proceeds s t (record x { gathered = None }) (record x { gathered = Some m }) 1 [] [] f f (sends [] (record (ldterm_in s (record x { gathered = None })) { gathered = bytes }))
  unfolding times_kept times_sent parcels_in AreChains
  new-gathered =
      let p = ldterm_in s (record x { gathered = None }) in
      record {
        state =
            ap (λ (q : ldterms.Discipline ℕ). record q { gathered = cells_of (message_in t (token m)) }) new-framed.0
            ∙ ap (λ (cells : List ℕ). record p { gathered = cells }) (data-cells (message_in t (token m)) bytes is.shows);
        noted = refl;
        parcels = refl;
        told = refl;
        held = (let h = new-framed.1 in record {
          read = h.read;
          write = h.write;
          apart = h.apart;
          work = h.work;
          gathers = record { are = is.are; some = (let e = ap length (data-cells (message_in t (token m)) bytes is.shows) in omega arith) };
          echoes = h.echoes;
          once_each = λ i. let a = can.apart i in let c = new-comes i in let few = st.apart i in omega arith;
        });
        own = record { lists = λ k none. ap (λ v. list_at v k) is.after; owns_same = λ k. refl };
        chains = tt;
        hands = record {
          counts = λ i. let c = new-comes i in omega arith;
          others = λ i gone kept some. new-stays i some;
        };
        mblks = is.mblks;
        dblks = is.dblks;
        pool = record { mblks = ap (λ v. v.mblks) is.after; dblks = ap (λ v. v.dblks) is.after };
      }

-- one that grows, under another name that is the same
module _ (s t : StoreValue) (x : Paired) (e r : InHand) (bytes : List ℕ) (f : Fates) (same : token r ≡ token e) (held : IsHeld s (record x { gathered = Some e })) (is : Grown s t (token e) bytes 1) where
  without-held : IsHeld s (record x { gathered = None })
  unfolding times_kept
  without-held = record {
    read = held.read;
    write = held.write;
    apart = held.apart;
    work = held.work;
    gathers = tt;
    echoes = held.echoes;
    once_each = λ i. let few = held.once_each i in omega arith;
  }

  kept-apart : (j : ℕ) → 0 < keeps (record x { gathered = None }) j → token e ≢ j
  unfolding times_kept
  kept-apart j some eq = let few = held.once_each j in let one = once-self (token e) in let w = ap (λ k. once (token e) k) eq in absurd (omega arith)

  other-stays : (j : ℕ) → token e ≢ j → in_hand t j ≡ in_hand s j
  other-stays j apart = ap (λ v. in_hand v j) is.after ∙ in_hand-changed_other s (token e) j (in_hand t (token e)) apart

  all-stay : (j : ℕ) → times_in j t.hand ≡ times_in j s.hand
  all-stay j = ap (λ v. times_in j v.hand) is.after ∙ times-replaced (token e) j (in_hand t (token e)) s.hand

  grown-framed : (ldterm_in t (record x { gathered = None }) ≡ ldterm_in s (record x { gathered = None })) × IsHeld t (record x { gathered = None })
  grown-framed = ldterm-frame s t (record x { gathered = None }) (record {
    lists = λ k some. ap (λ v. list_at v k) is.after;
    mblks = ap (λ v. v.mblks) is.after;
    dblks = ap (λ v. v.dblks) is.after;
    kept = λ j some. other-stays j (kept-apart j some);
  }) without-held

  grown-is : IsGathered t (token e)
  grown-is = record {
    are = record { are = is.are; band = is.band ∙ held.gathers.are.band };
    some = (let more = ap length is.cells in let both = length-append (cells_of (message_in s (token e))) bytes in let some = held.gathers.some in omega arith);
  }

  kept-none : (j : ℕ) → keeps (record x { gathered = Some e }) j ≡ 0 → token e ≢ j
  unfolding times_kept
  kept-none j none eq = let one = once-self (token e) in let w = ap (λ k. once (token e) k) eq in absurd (omega arith)

  pub grown-gathered : Proceeds s t (record x { gathered = Some e }) (record x { gathered = Some r }) 1 [] [] f f
      (sends [] (record (ldterm_in s (record x { gathered = Some e })) { gathered = cells_of (message_in s (token e)) ++ bytes }))
  unfolding times_kept times_sent parcels_in AreChains
  grown-gathered =
      let p = ldterm_in s (record x { gathered = None }) in
      record {
        state =
            ap (λ (q : ldterms.Discipline ℕ). record q { gathered = cells_of (message_in t (token r)) }) grown-framed.0
            ∙ ap (λ (cells : List ℕ). record p { gathered = cells }) (ap (λ k. cells_of (message_in t k)) same ∙ is.cells);
        noted = refl;
        parcels = refl;
        told = refl;
        held = (let h = grown-framed.1 in record {
          read = h.read;
          write = h.write;
          apart = h.apart;
          work = h.work;
          gathers = subst (IsGathered t) (sym same) grown-is;
          echoes = h.echoes;
          once_each = λ i. let few = held.once_each i in let w = ap (λ k. once k i) same in omega arith;
        });
        own = record { lists = λ k none. ap (λ v. list_at v k) is.after; owns_same = λ k. refl };
        chains = tt;
        hands = record {
          counts = λ i. let c = all-stay i in let w = ap (λ k. once k i) same in omega arith;
          others = λ i gone kept some. other-stays i (kept-none i kept);
        };
        mblks = is.mblks;
        dblks = is.dblks;
        pool = record { mblks = ap (λ v. v.mblks) is.after; dblks = ap (λ v. v.dblks) is.after };
      }
