-- Messages in hand, where others come and go.
use Rattle.std.proofs.Common.{ℕ, ◌≡◌, ◌≢◌, ◌<◌, ◌+◌, true, false, cond, eqb, List, [], ◌∷◌, ◌++◌, refl, sym, ap, ◌∙◌, arith, inl, inr}
use Rattle.std.proofs.lemmas.Bool.{cases_eq}
use Rattle.std.proofs.lemmas.Bool.Decides.{nat_tests}
use Rattle.std.proofs.lemmas.List.Sums.{sum_by-cons}
use Rattle.strm_blocks.specs.Blocks.{Block, Held, StoreValue, in_hand, held, dropped, changed, IsInHand, IsFreshName, times_in, chain_in, without, with_chain}

same-name : (i : ℕ) → eqb i i ≡ true
same-name i = grind (arith, nat_tests)

pub other-name : (i j : ℕ) → i ≢ j → eqb i j ≡ false
other-name i j ne = grind (arith, nat_tests)

module _ (s : StoreValue) (i : ℕ) (chain : List Block) where
  times-held : (j : ℕ) → times_in j (held s i chain).hand ≡ cond (eqb i j) 1 0 + times_in j s.hand
  times-held j = sum_by-cons (λ (h : Held). cond (eqb h.name j) 1 0) (record { name = i; chain = chain }) s.hand

  -- the message that came is in hand, with its chain
  pub held-is : IsFreshName s i → IsInHand (held s i chain) i
  held-is fresh = let t = times-held i in let e = ap (λ v. cond {A = ℕ} v 1 0) (same-name i) in omega arith

  pub held-chain : in_hand (held s i chain) i ≡ chain
  held-chain = ap (λ v. cond v chain (chain_in i s.hand)) (same-name i)

  -- what was in hand before has another name
  pub held-apart : (j : ℕ) → IsFreshName s i → IsInHand s j → i ≢ j
  held-apart j fresh is = λ e. (let t = ap (λ k. times_in k s.hand) e in absurd (omega arith))

  -- a name that is still fresh is another one
  pub fresh-apart : (j : ℕ) → IsFreshName (held s i chain) j → i ≢ j
  fresh-apart j fresh = λ e. (let t = times-held j in let n = ap (λ k. cond {A = ℕ} (eqb k j) 1 0) e in let o = ap (λ v. cond {A = ℕ} v 1 0) (same-name j) in absurd (omega arith))

  pub fresh-before : (j : ℕ) → IsFreshName (held s i chain) j → IsFreshName s j
  fresh-before j fresh = let t = times-held j in omega arith

  -- and stays there, with its chain
  pub stays : (j : ℕ) → IsFreshName s i → IsInHand s j → IsInHand (held s i chain) j
  stays j fresh is =
      let t = times-held j in
      let e = ap (λ v. cond {A = ℕ} v 1 0) (other-name i j (held-apart j fresh is)) in
      omega arith

  pub stays-chain : (j : ℕ) → i ≢ j → in_hand (held s i chain) j ≡ in_hand s j
  stays-chain j ne = ap (λ v. cond v chain (chain_in j s.hand)) (other-name i j ne)

  -- a message that came and went again
  pub gone : dropped (held s i chain) i ≡ s
  gone = ap (λ v. record s { hand = cond v s.hand (record { name = i; chain = chain } ∷ without i s.hand) }) (same-name i)

  pub held-changed : (chain' : List Block) → changed (held s i chain) i chain' ≡ held s i chain'
  held-changed chain' = ap (λ v. record s { hand = cond v (record { name = i; chain = chain' } ∷ s.hand) (record { name = i; chain = chain } ∷ with_chain i chain' s.hand) }) (same-name i)

-- a message that is hung behind another one
pub grown : (s : StoreValue) (i j : ℕ) (front back : List Block) → j ≢ i →
    changed (dropped (held (held s i front) j back) j) i (in_hand (held (held s i front) j back) i ++ in_hand (held (held s i front) j back) j) ≡ held s i (front ++ back)
grown s i j front back ne =
    let first = stays-chain (held s i front) j back i ne ∙ held-chain s i front in
    let second = held-chain (held s i front) j back in
    let joined : in_hand (held (held s i front) j back) i ++ in_hand (held (held s i front) j back) j ≡ front ++ back = ap (λ xs. xs ++ in_hand (held (held s i front) j back) j) first ∙ ap (λ xs. front ++ xs) second in
    ap (λ t. changed t i (in_hand (held (held s i front) j back) i ++ in_hand (held (held s i front) j back) j)) (gone (held s i front) j back) ∙ ap (λ c. changed (held s i front) i c) joined ∙ held-changed s i front (front ++ back)

-- another chain at a message in hand
chain-replaced : (i : ℕ) (chain : List Block) (hand : List Held) → 0 < times_in i hand → chain_in i (with_chain i chain hand) ≡ chain
chain-replaced i chain [] some = absurd (omega arith)
chain-replaced i chain (h ∷ hand) some =
    let t = sum_by-cons (λ (h : Held). cond (eqb h.name i) 1 0) h hand in
    elim (cases_eq h.name i) [
      | inl e ↦
          (let hit : eqb h.name i ≡ true = ap (λ k. eqb k i) e ∙ same-name i in
          ap (λ v. chain_in i (cond v (record h { chain = chain } ∷ hand) (h ∷ with_chain i chain hand))) hit ∙ ap (λ v. cond v chain (chain_in i hand)) hit)
      | inr ne ↦
          (let miss : eqb h.name i ≡ false = other-name h.name i ne in
          let none = ap (λ v. cond {A = ℕ} v 1 0) miss in
          ap (λ v. chain_in i (cond v (record h { chain = chain } ∷ hand) (h ∷ with_chain i chain hand))) miss ∙ ap (λ v. cond v h.chain (chain_in i (with_chain i chain hand))) miss ∙ chain-replaced i chain hand (omega arith))
    ]

pub times-replaced : (i j : ℕ) (chain : List Block) (hand : List Held) → times_in j (with_chain i chain hand) ≡ times_in j hand
times-replaced i j chain [] = refl
times-replaced i j chain (h ∷ hand) =
    let ih = times-replaced i j chain hand in
    let old = sum_by-cons (λ (h : Held). cond (eqb h.name j) 1 0) h hand in
    let new = sum_by-cons (λ (h : Held). cond (eqb h.name j) 1 0) (record h { chain = chain }) hand in
    let kept = sum_by-cons (λ (h : Held). cond (eqb h.name j) 1 0) h (with_chain i chain hand) in
    elim (eqb h.name i) as (λ v. times_in j (cond v (record h { chain = chain } ∷ hand) (h ∷ with_chain i chain hand)) ≡ times_in j (h ∷ hand)) [ true ↦ omega arith | false ↦ omega arith ]

twice-replaced : (i : ℕ) (one two : List Block) (hand : List Held) → with_chain i two (with_chain i one hand) ≡ with_chain i two hand
twice-replaced i one two [] = refl
twice-replaced i one two (h ∷ hand) =
    let ih = twice-replaced i one two hand in
    elim (cases_eq h.name i) [
      | inl e ↦
          (let hit : eqb h.name i ≡ true = ap (λ k. eqb k i) e ∙ same-name i in
          ap (λ v. with_chain i two (cond v (record h { chain = one } ∷ hand) (h ∷ with_chain i one hand))) hit ∙ ap (λ v. cond v (record h { chain = two } ∷ hand) (record h { chain = one } ∷ with_chain i two hand)) hit ∙ sym (ap (λ v. cond v (record h { chain = two } ∷ hand) (h ∷ with_chain i two hand)) hit))
      | inr ne ↦
          (let miss : eqb h.name i ≡ false = other-name h.name i ne in
          ap (λ v. with_chain i two (cond v (record h { chain = one } ∷ hand) (h ∷ with_chain i one hand))) miss ∙ ap (λ v. cond v (record h { chain = two } ∷ with_chain i one hand) (h ∷ with_chain i two (with_chain i one hand))) miss ∙ ap (λ xs. h ∷ xs) ih ∙ sym (ap (λ v. cond v (record h { chain = two } ∷ hand) (h ∷ with_chain i two hand)) miss))
    ]

same-replaced : (i : ℕ) (hand : List Held) → with_chain i (chain_in i hand) hand ≡ hand
same-replaced i [] = refl
same-replaced i (h ∷ hand) =
    let ih = same-replaced i hand in
    elim (eqb h.name i) as (λ v. cond v (record h { chain = cond v h.chain (chain_in i hand) } ∷ hand) (h ∷ with_chain i (cond v h.chain (chain_in i hand)) hand) ≡ h ∷ hand) [ true ↦ refl | false ↦ ap (λ xs. h ∷ xs) ih ]

module _ (s : StoreValue) (i : ℕ) where
  pub changed-chain : (chain : List Block) → IsInHand s i → in_hand (changed s i chain) i ≡ chain
  changed-chain chain is = chain-replaced i chain s.hand (omega arith)

  pub changed-in_hand : (chain : List Block) (j : ℕ) → IsInHand s j → IsInHand (changed s i chain) j
  changed-in_hand chain j is = times-replaced i j chain s.hand ∙ is

  pub changed-twice : (one two : List Block) → changed (changed s i one) i two ≡ changed s i two
  changed-twice one two = ap (λ xs. record s { hand = xs }) (twice-replaced i one two s.hand)

  pub changed-same : changed s i (in_hand s i) ≡ s
  changed-same = ap (λ xs. record s { hand = xs }) (same-replaced i s.hand)

-- a message that goes is the same loss, whatever its chain
without-replaced : (i : ℕ) (chain : List Block) (hand : List Held) → without i (with_chain i chain hand) ≡ without i hand
without-replaced i chain [] = refl
without-replaced i chain (h ∷ hand) =
    let ih = without-replaced i chain hand in
    elim (cases_eq h.name i) [
      | inl e ↦
          (let hit : eqb h.name i ≡ true = ap (λ k. eqb k i) e ∙ same-name i in
          ap (λ v. without i (cond v (record h { chain = chain } ∷ hand) (h ∷ with_chain i chain hand))) hit ∙ ap (λ v. cond v hand (record h { chain = chain } ∷ without i hand)) hit ∙ sym (ap (λ v. cond v hand (h ∷ without i hand)) hit))
      | inr ne ↦
          (let miss : eqb h.name i ≡ false = other-name h.name i ne in
          ap (λ v. without i (cond v (record h { chain = chain } ∷ hand) (h ∷ with_chain i chain hand))) miss ∙ ap (λ v. cond v (with_chain i chain hand) (h ∷ without i (with_chain i chain hand))) miss ∙ ap (λ xs. h ∷ xs) ih ∙ sym (ap (λ v. cond v hand (h ∷ without i hand)) miss))
    ]

pub dropped-changed : (s : StoreValue) (i : ℕ) (chain : List Block) → dropped (changed s i chain) i ≡ dropped s i
dropped-changed s i chain = ap (λ xs. record s { hand = xs }) (without-replaced i chain s.hand)
