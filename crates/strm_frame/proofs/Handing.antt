-- Messages in hand, where a message is put, and each that this gives rise to is carried on.
use Rattle.strm_frame.proofs.Prelude.{ℕ, ◌≡◌, ◌≤◌, ◌<◌, ◌+◌, true, false, cond, List, [], ◌∷◌, length, refl, sym, ap, subst, ◌∙◌, arith, inl, inr}
use Rattle.strm_frame.proofs.Prelude.{cases_eq, nat_tests, sum_by-cons}
use Rattle.strm_frame.specs.Prelude.{Block, StoreValue, IsStore, IsInHand, in_hand, dropped, times_in, token, Parcel, IsChain, beyond, cost_of, most}
use Rattle.strm_frame.specs.Prelude.{At, FreesBlocks}
use Rattle.std.proofs.Common.{◌≢◌, eqb}
use Rattle.strm_blocks.specs.Blocks.{Held, held, without, names_of}
use Rattle.strm_blocks.proofs.Laws.{in_hand-dropped, total-dropped, used-is, free_m-is, free_d-more, references-is}
use Rattle.strm_msg.proofs.Hands.{other-name}
use Rattle.strm_frame.specs.declared.parcels.Sent.{Sent}
use Rattle.strm_frame.specs.Hands.{once, AreIn, CanPut, Handles, Hands, HasRoom, MayDeliver, Spends, Takes}
use Rattle.strm_frame.specs.Outboxes.{times_sent, parcels_in, parcel_in, spot_in, AreChains}
use Rattle.strm_frame.specs.Serves.{later_cost}
use Rattle.strm_frame.proofs.WidePools.{frees-spends, room-on}

same-name : (i : ℕ) → eqb i i ≡ true
same-name i = grind (arith, nat_tests)

-- a name is once itself
pub once-self : (i : ℕ) → once i i ≡ 1
unfolding once
once-self i = ap (λ v. cond {A = ℕ} v 1 0) (same-name i)

pub once-apart : (i j : ℕ) → once i j ≡ 0 → i ≢ j
once-apart i j none = λ e. (let t = ap (once i) (sym e) in let u = once-self i in absurd (omega arith))

pub once-none : (i j : ℕ) → i ≢ j → once i j ≡ 0
unfolding once
once-none i j ne = ap (λ v. cond {A = ℕ} v 1 0) (other-name i j ne)

-- what is put is in hand
pub can-in_hand : (s : StoreValue) (i : ℕ) (keeps : ℕ → ℕ) → IsStore s → CanPut s i keeps → IsInHand s i
can-in_hand s i keeps st can = let a = can.apart i in let o = once-self i in let few = st.apart i in omega arith

-- and what is in hand may be put where nothing is kept
pub can-of : (s : StoreValue) (i : ℕ) → IsInHand s i → CanPut s i (λ _. 0)
can-of s i is = record {
  apart = λ j. elim (cases_eq i j) [
    | inl e ↦ (let t = ap (λ k. times_in k s.hand) e in let o = ap (λ k. once i k) e in let u = once-self i in omega arith)
    | inr ne ↦ (let o = once-none i j ne in omega arith)
  ];
}

-- a message that came
pub times-held : (s : StoreValue) (i : ℕ) (chain : List Block) (j : ℕ) → times_in j (held s i chain).hand ≡ once i j + times_in j s.hand
unfolding once
times-held s i chain j = sum_by-cons (λ (h : Held). cond (eqb h.name j) 1 0) (record { name = i; chain = chain }) s.hand

-- the message that is freed goes, and no other
times-without : (i j : ℕ) (hand : List Held) → 0 < times_in i hand → times_in j (without i hand) + once i j ≡ times_in j hand
unfolding once
times-without i j [] some = absurd (omega arith)
times-without i j (h ∷ hand) some =
    let all = sum_by-cons (λ (x : Held). cond (eqb x.name j) 1 0) h hand in
    let these = sum_by-cons (λ (x : Held). cond (eqb x.name i) 1 0) h hand in
    let kept = sum_by-cons (λ (x : Held). cond (eqb x.name j) 1 0) h (without i hand) in
    let ih : 0 < times_in i hand → times_in j (without i hand) + cond {A = ℕ} (eqb i j) 1 0 ≡ times_in j hand = times-without i j hand in
    elim (cases_eq h.name i) [
      | inl e ↦
          (let hit : eqb h.name i ≡ true = ap (λ k. eqb k i) e ∙ same-name i in
          let one = ap (λ k. cond {A = ℕ} (eqb k j) 1 0) e in
          rw hit (omega arith))
      | inr ne ↦
          (let miss : eqb h.name i ≡ false = other-name h.name i ne in
          let none = ap (λ v. cond {A = ℕ} v 1 0) miss in
          let more = ih (omega arith) in
          rw miss (omega arith))
    ]

-- nothing changed in hand
pub still-hands : (s : StoreValue) (keeps : ℕ → ℕ) → Handles s s (λ _. 0) keeps keeps (λ _. 0)
still-hands s keeps = record { counts = λ i. refl; others = λ i gone kept some. refl }

pub freed-hands : (s : StoreValue) (i : ℕ) (keeps : ℕ → ℕ) → IsStore s → CanPut s i keeps → Hands s (dropped s i) i keeps keeps (λ _. 0)
freed-hands s i keeps st can =
    record {
      counts = λ j. let is = can-in_hand s i keeps st can in let t = times-without i j s.hand (omega arith) in omega arith;
      others = λ j apart kept some. in_hand-dropped s i j (once-apart i j apart);
    }

-- no fewer blocks are free
pub dropped-frees : (s : StoreValue) (i : ℕ) → IsInHand s i → FreesBlocks s (dropped s i)
dropped-frees s i is = record {
  mblks = omega (arith, total-dropped length s i is, used-is s, used-is (dropped s i), free_m-is s, free_m-is (dropped s i));
  dblks = free_d-more s (dropped s i) refl (λ d. omega (arith, total-dropped (names_of d) s i is, references-is s d, references-is (dropped s i) d));
}

pub freed-spends : (s : StoreValue) (i : ℕ) (keeps : ℕ → ℕ) (most : ℕ) → IsStore s → CanPut s i keeps → Spends s (dropped s i) most 0
freed-spends s i keeps most st can =
    frees-spends s (dropped s i) (record { mblks = refl; dblks = refl }) (dropped-frees s i (can-in_hand s i keeps st can)) most

-- what was sent stands for the same, where those messages stay
pub parcels-same : (s t : StoreValue) (sent : List Sent) → ((i : ℕ) → 0 < times_sent i sent → in_hand t i ≡ in_hand s i) → parcels_in t sent ≡ parcels_in s sent
unfolding parcels_in times_sent
parcels-same s t [] same = refl
parcels-same s t (x ∷ more) same =
    let o = once-self (token x.message) in
    let here = same (token x.message) (omega arith) in
    let rest = parcels-same s t more (λ i some. same i (omega arith)) in
    parcels-cons s t x more here rest
  where
    parcels-cons : (s t : StoreValue) (x : Sent) (more : List Sent) → in_hand t (token x.message) ≡ in_hand s (token x.message) → parcels_in t more ≡ parcels_in s more →
        ◌≡◌ {A = List (Parcel ℕ)} (parcel_in t x ∷ parcels_in t more) (parcel_in s x ∷ parcels_in s more)
    parcels-cons s t x more here rest = rw (here, rest) refl

-- and are chains
pub chains-same : (s t : StoreValue) (sent : List Sent) → ((i : ℕ) → 0 < times_sent i sent → in_hand t i ≡ in_hand s i) → AreChains s sent → AreChains t sent
unfolding AreChains times_sent
chains-same s t [] same chains = tt
chains-same s t (x ∷ more) same chains =
    let o = once-self (token x.message) in
    let here = same (token x.message) (omega arith) in
    (subst IsChain (sym here) chains.0, chains-same s t more (λ i some. same i (omega arith)) chains.1)

-- What has gone has sent x and more, and x is carried on.
module _ (s0 s t : StoreValue) (gone kept keeps keeps' : ℕ → ℕ) (x : Sent) (more all : List Sent)
    (split : all ≡ x ∷ more) (st : IsStore s) (can : AreIn s0 gone kept) (put : Handles s0 s gone kept keeps (λ i. times_sent i all)) where
  times-split : (i : ℕ) → times_sent i all ≡ once (token x.message) i + times_sent i more
  unfolding times_sent
  times-split i = ap (times_sent i) split

  pub next-parts : parcels_in s all ≡ parcel_in s x ∷ parcels_in s more
  unfolding parcels_in
  next-parts = ap (parcels_in s) split

  -- x may be put
  pub next-can : CanPut s (token x.message) keeps
  next-can = record { apart = λ i. let c = put.counts i in let a = can.apart i in let e = times-split i in omega arith }

  cost-split : (cost : At → ℕ) → cost_of cost (parcels_in s all) ≡ cost (spot_in s x.to (token x.message)) + cost_of cost (parcels_in s more)
  unfolding cost_of
  cost-split cost = ap (cost_of cost) next-parts

  -- x is a chain
  pub next-chain : AreChains s all → IsChain (in_hand s (token x.message))
  unfolding AreChains
  next-chain chains = (subst (AreChains s) split chains).0

  -- what x takes is there
  pub next-may : (cost : At → ℕ) (most was is : ℕ) → MayDeliver s0 was most → Takes s0 s was is most (cost_of cost (parcels_in s all)) → cost_of cost (parcels_in s all) < beyond
      → MayDeliver s is (cost (spot_in s x.to (token x.message)))
  next-may cost most was is may takes ends =
      let e = cost-split cost in
      let left = room-on s0 s most (cost_of cost (parcels_in s all)) may.room takes.blocks in
      record {
        room = record { mblks = omega (arith, e, left.mblks); dblks = omega (arith, e, left.dblks) };
        spare = (let a = may.spare in let b = takes.spare in omega arith);
        ends = omega (arith, e, ends);
      }

  module _ (carried : Hands s t (token x.message) keeps keeps' (λ _. 0)) where
    -- and then the rest is as if it alone had been sent
    pub next-hands : Handles s0 t gone kept keeps' (λ i. times_sent i more)
    next-hands = record {
      counts = λ i. let c = put.counts i in let d = carried.counts i in let e = times-split i in omega arith;
      others = λ i apart none some.
          let c = put.counts i in let e = times-split i in let few = st.apart i in
          carried.others i (omega arith) (omega arith) (omega arith) ∙ put.others i apart none some;
    }

    pub next-same : parcels_in t more ≡ parcels_in s more
    next-same = parcels-same s t more (λ i some.
        let c = put.counts i in let a = can.apart i in let e = times-split i in let few = st.apart i in
        carried.others i (omega arith) (omega arith) (omega arith))

    pub next-chains : AreChains s all → AreChains t more
    unfolding AreChains
    next-chains chains = chains-same s t more (λ i some.
        let c = put.counts i in let a = can.apart i in let e = times-split i in let few = st.apart i in
        carried.others i (omega arith) (omega arith) (omega arith)) (subst (AreChains s) split chains).1

    pub next-ends : (cost : At → ℕ) → cost_of cost (parcels_in s all) < beyond → cost_of cost (parcels_in t more) < beyond
    next-ends cost ends = omega (arith, cost-split cost, ap (cost_of cost) next-same, ends)

    pub next-takes : (cost : At → ℕ) (most was is left : ℕ) → Takes s0 s was is most (cost_of cost (parcels_in s all))
        → Takes s t is left (cost (spot_in s x.to (token x.message))) 0 → Takes s0 t was left most (cost_of cost (parcels_in t more))
    next-takes cost most was is left takes then =
        let e = cost-split cost in
        let f = ap (cost_of cost) next-same in
        let spends = takes.blocks in
        let behind = then.blocks in
        record { blocks = record { mblks = omega arith; dblks = omega arith }; spare = (let a = takes.spare in let b = then.spare in omega arith) }

pub no-cost : (s0 s : StoreValue) (cost : At → ℕ) (most was is : ℕ) (all : List Sent) → all ≡ [] → Takes s0 s was is most (cost_of cost (parcels_in s all)) → Takes s0 s was is most 0
unfolding cost_of parcels_in
no-cost s0 s cost most was is all none takes =
    let e = ap (λ xs. cost_of cost (parcels_in s xs)) none in
    let spends = takes.blocks in
    record { blocks = record { mblks = omega arith; dblks = omega arith }; spare = (let a = takes.spare in omega arith) }

-- nothing is left that was sent
pub no-more : (s0 s : StoreValue) (gone kept keeps : ℕ → ℕ) (all : List Sent) → all ≡ [] → Handles s0 s gone kept keeps (λ i. times_sent i all) → Handles s0 s gone kept keeps (λ _. 0)
unfolding times_sent
no-more s0 s gone kept keeps all none put = record {
  counts = λ i. let c = put.counts i in let e = ap (times_sent i) none in omega arith;
  others = put.others;
}

-- nothing was to be sent
pub still-sent : (s : StoreValue) (keeps : ℕ → ℕ) (all : List Sent) → all ≡ [] → Handles s s (λ i. times_sent i all) keeps keeps (λ _. 0)
unfolding times_sent
still-sent s keeps all none = record {
  counts = λ i. let e = ap (times_sent i) none in omega arith;
  others = λ i gone kept some. refl;
}

pub no-parts : (s : StoreValue) (all : List Sent) → all ≡ [] → parcels_in s all ≡ []
unfolding parcels_in
no-parts s all none = ap (parcels_in s) none

-- nothing is sent
pub none-hands : (s0 s : StoreValue) (gone kept keeps : ℕ → ℕ) (all : List Sent) → all ≡ [] → Handles s0 s gone kept keeps (λ _. 0) → Handles s0 s gone kept keeps (λ i. times_sent i all)
unfolding times_sent
none-hands s0 s gone kept keeps all none put = record {
  counts = λ i. let c = put.counts i in let e = ap (times_sent i) none in omega arith;
  others = put.others;
}

pub none-chains : (s : StoreValue) (all : List Sent) → all ≡ [] → AreChains s all
unfolding AreChains
none-chains s all none = subst (AreChains s) (sym none) tt

-- no call follows
pub no-room : (s : StoreValue) (next : ℕ) (all : List Sent) → all ≡ [] → HasRoom s (later_cost false next (parcels_in s all))
unfolding cost_of parcels_in
no-room s next all none =
    let e = ap (λ xs. cost_of most (parcels_in s xs)) none in
    record { mblks = omega arith; dblks = omega arith }

-- one message is sent on, and it is the one that was put
pub one-parts : (s : StoreValue) (x : Sent) (all : List Sent) → all ≡ x ∷ [] → parcels_in s all ≡ parcel_in s x ∷ []
unfolding parcels_in
one-parts s x all one = ap (parcels_in s) one

pub one-hands : (s : StoreValue) (x : Sent) (keeps : ℕ → ℕ) (all : List Sent) → all ≡ x ∷ [] → Hands s s (token x.message) keeps keeps (λ i. times_sent i all)
unfolding times_sent
one-hands s x keeps all one = record {
  counts = λ i. let e = ap (times_sent i) one in omega arith;
  others = λ i apart kept some. refl;
}

pub one-chains : (s : StoreValue) (x : Sent) (all : List Sent) → all ≡ x ∷ [] → IsChain (in_hand s (token x.message)) → AreChains s all
unfolding AreChains
one-chains s x all one chain = subst (AreChains s) (sym one) (chain, tt)

-- What was sent goes on, and all that was kept then is.
pub hands-on : (s0 s t : StoreValue) (gone sent kept keeps keeps' : ℕ → ℕ) → IsStore s → Handles s0 s gone kept keeps sent → Handles s t sent keeps keeps' (λ _. 0) → Handles s0 t gone kept keeps' (λ _. 0)
hands-on s0 s t gone sent kept keeps keeps' st put then = record {
  counts = λ i. let c = put.counts i in let d = then.counts i in omega arith;
  others = λ i apart none some.
      let c = put.counts i in let few = st.apart i in
      then.others i (omega arith) (omega arith) (omega arith) ∙ put.others i apart none some;
}

-- what is sent is in hand, beside what is kept
pub sent-in : (s0 s : StoreValue) (gone sent kept keeps : ℕ → ℕ) → AreIn s0 gone kept → Handles s0 s gone kept keeps sent → AreIn s sent keeps
sent-in s0 s gone sent kept keeps are put = record { apart = λ i. let a = are.apart i in let c = put.counts i in omega arith }

-- one takes so much, and another one after it
pub takes-both : (s0 s t : StoreValue) (was is left one another most : ℕ) → Takes s0 s was is one 0 → Takes s t is left another 0 → one + another ≤ most → Takes s0 t was left most 0
takes-both s0 s t was is left one another most first then few = record {
  blocks = record { mblks = omega (arith, first.blocks.mblks, then.blocks.mblks, few); dblks = omega (arith, first.blocks.dblks, then.blocks.dblks, few) };
  spare = omega (arith, first.spare, then.spare, few);
}

pub takes-more : (s0 s : StoreValue) (was is own most : ℕ) → Takes s0 s was is own 0 → own ≤ most → Takes s0 s was is most 0
takes-more s0 s was is own most takes few = record {
  blocks = record { mblks = omega (arith, takes.blocks.mblks, few); dblks = omega (arith, takes.blocks.dblks, few) };
  spare = omega (arith, takes.spare, few);
}

-- the only message in hand is once there
times-alone : (s : StoreValue) (n : ℕ) (chain : List Block) (i : ℕ) → s.hand ≡ record { name = n; chain = chain } ∷ [] → times_in i s.hand ≡ once n i
unfolding once
times-alone s n chain i is =
    let c = sum_by-cons (λ (x : Held). cond {A = ℕ} (eqb x.name i) 1 0) (record { name = n; chain = chain }) [] in
    ap (times_in i) is ∙ (omega arith)

-- it may be put where nothing is kept
pub alone-can : (s : StoreValue) (n : ℕ) (chain : List Block) (keeps : ℕ → ℕ) → s.hand ≡ record { name = n; chain = chain } ∷ [] → ((i : ℕ) → keeps i ≡ 0) → CanPut s n keeps
alone-can s n chain keeps is none = record { apart = λ i. let t = times-alone s n chain i is in let z = none i in omega arith }

-- none is in hand whose name stands there
pub no-hand : (hand : List Held) → ((i : ℕ) → times_in i hand ≡ 0) → hand ≡ []
no-hand [] none = refl
no-hand (h ∷ hand) none =
    let c = sum_by-cons (λ (x : Held). cond {A = ℕ} (eqb x.name h.name) 1 0) h hand in
    let e = ap (λ v. cond {A = ℕ} v 1 0) (same-name h.name) in
    let z = none h.name in
    absurd (omega arith)

-- and nothing is in hand when all is delivered
pub none-left : (s t : StoreValue) (n : ℕ) (chain : List Block) (kept keeps : ℕ → ℕ) → s.hand ≡ record { name = n; chain = chain } ∷ [] → ((i : ℕ) → keeps i ≡ 0) → Hands s t n kept keeps (λ _. 0) → t.hand ≡ []
none-left s t n chain kept keeps is none put = no-hand t.hand (λ i. let c = put.counts i in let a = times-alone s n chain i is in let z = none i in omega arith)
