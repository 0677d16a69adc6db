-- A message that is freed block by block.
use Rattle.std.proofs.Common.{ℕ, ◌≡◌, ◌≢◌, ◌<◌, true, false, ◌≤◌, cond, eqb, List, [], ◌∷◌, length, refl, sym, ap, ◌∙◌, subst, arith}
use Rattle.std.specs.Prelude.{Option, None, Some, MatchOption, ◌==◌}
use Rattle.std.proofs.lemmas.Bool.Decides.{nat_tests}
use Rattle.std.proofs.lemmas.List.Sums.{sum_by-cons}
use Rattle.strm_blocks.specs.Blocks.{Block, Held, StoreValue, token, IsInHand, IsFreshName, times_in, in_hand, held, dropped, changed, without, with_chain}
use Rattle.strm_blocks.specs.Outcomes.{Unlinked, UnlinkedLast}
use Rattle.strm_blocks.specs.declared.in_hand.InHand.{InHand}
use Rattle.strm_blocks.proofs.Laws as laws

-- two names, of which one is in hand and the other isn't, are two
apart-fresh : (s : StoreValue) (i j : ℕ) → IsInHand s i → IsFreshName s j → i ≢ j
apart-fresh s i j here fresh same = absurd (let e = ap (λ (n : ℕ). times_in n s.hand) same in omega arith)

-- a new message is in hand
pub in-hand-held : (s : StoreValue) (i : ℕ) (chain : List Block) → IsFreshName s i → IsInHand (held s i chain) i
in-hand-held s i chain fresh = let c = sum_by-cons (λ (h : Held). cond (eqb h.name i) 1 0) (record { name = i; chain = chain }) s.hand in grind (arith, nat_tests)

-- no name is that of more messages where one is out of hand
times-fewer : (i j : ℕ) (hand : List Held) → times_in j (without i hand) ≤ times_in j hand
times-fewer i j [] = omega arith
times-fewer i j (h ∷ hand) =
    let c = sum_by-cons (λ (h : Held). cond (eqb h.name j) 1 0) h hand in let d = sum_by-cons (λ (h : Held). cond (eqb h.name j) 1 0) h (without i hand) in
    let ih = times-fewer i j hand in
    elim (eqb h.name i) as (λ b. times_in j (cond b hand (h ∷ without i hand)) ≤ times_in j (h ∷ hand)) [
      | true ↦ omega arith
      | false ↦ omega arith
    ]

without-with_chain : (i : ℕ) (chain : List Block) (hand : List Held) → without i (with_chain i chain hand) ≡ without i hand
without-with_chain i chain [] = refl
without-with_chain i chain (h ∷ hand) = elim (h.name == i) as (λ b. (h.name == i) ≡ b → without i (cond b (record h { chain = chain } ∷ hand) (h ∷ with_chain i chain hand)) ≡ cond b hand (h ∷ without i hand)) [
  | true ↦ (λ e. ap (λ b. cond b hand (record h { chain = chain } ∷ without i hand)) e)
  | false ↦ (λ e. ap (λ b. cond b (with_chain i chain hand) (h ∷ without i (with_chain i chain hand))) e ∙ ap (λ r. h ∷ r) (without-with_chain i chain hand))
] refl

-- what is left of a message of a store whose other messages stay
abbrev pub Left : StoreValue → ℕ → Option InHand → StoreValue → Type 0
Left s0 n o s = MatchOption o (s ≡ dropped s0 n) (λ m. IsInHand s (token m) × (dropped s (token m) ≡ dropped s0 n))

-- how many blocks are left
abbrev pub left_len : Option InHand → StoreValue → ℕ
left_len None s = 0
left_len (Some m) s = length (in_hand s (token m))

module _ (s s1 : StoreValue) (m first : InHand) (here : IsInHand s (token m)) where
  -- the first block can be freed
  pub first-alone : (o : Option InHand) → MatchOption o (UnlinkedLast s s1 (token m) (token first)) (λ rest. Unlinked s s1 (token m) (token first) (token rest))
      → IsInHand s1 (token first) × (length (in_hand s1 (token first)) ≡ 1)
  first-alone None u =
      let P : StoreValue × ℕ → Type 0 = λ x. IsInHand x.0 x.1 × (length (in_hand x.0 x.1) ≡ 1) in
      subst P (λ j. (sym u.same j, sym u.kept_name j)) (here, u.single)
  first-alone (Some rest) u =
      let apart = apart-fresh s (token m) (token rest) here u.fresh_name in
      let apart' : token rest ≢ token m = λ e. apart (sym e) in
      let x = changed s (token m) (u.block ∷ []) in
      let P : StoreValue × ℕ → Type 0 = λ x. IsInHand x.0 x.1 × (length (in_hand x.0 x.1) ≡ 1) in
      subst P (λ j. (sym u.after j, sym u.kept_name j)) (
        laws.IsInHand-held_other x (token rest) (token m) u.chain apart' (laws.IsInHand-changed s (token m) (token m) (u.block ∷ []) here),
        ap (λ c. length c) (laws.in_hand-held_other x (token rest) (token m) u.chain apart' ∙ laws.in_hand-changed s (token m) (u.block ∷ []) here),
      )

  pub rest-left : (o : Option InHand) (s0 s2 : StoreValue) (n : ℕ) → MatchOption o (UnlinkedLast s s1 (token m) (token first)) (λ rest. Unlinked s s1 (token m) (token first) (token rest))
      → dropped s (token m) ≡ dropped s0 n → s2 ≡ dropped s1 (token first) → Left s0 n o s2 × (left_len o s2 < length (in_hand s (token m)))
  rest-left None s0 s2 n u e d = (d ∙ (λ j. dropped (u.same j) (u.kept_name j)) ∙ e, omega (arith, u.single))
  rest-left (Some rest) s0 s2 n u e d =
      let apart = apart-fresh s (token m) (token rest) here u.fresh_name in
      let apart' : token rest ≢ token m = λ e. apart (sym e) in
      let x = changed s (token m) (u.block ∷ []) in
      let no : (token rest == token m) ≡ false = grind (arith, nat_tests) in
      let s2-is : s2 ≡ held (dropped s (token m)) (token rest) u.chain =
      d ∙ (λ j. dropped (u.after j) (u.kept_name j))
      ∙ ap (λ b. record s { hand = cond b x.hand (record { name = token rest; chain = u.chain } ∷ without (token m) x.hand) }) no
      ∙ ap (λ (h : List Held). record s { hand = record { name = token rest; chain = u.chain } ∷ h }) (without-with_chain (token m) (u.block ∷ []) s.hand) in
      let fresh : IsFreshName (dropped s (token m)) (token rest) = (let few = times-fewer (token m) (token rest) s.hand in let none = u.fresh_name in omega arith) in
      let len = ap length u.joined in
      let chain = ap (λ (s : StoreValue). length (in_hand s (token rest))) s2-is ∙ ap length (laws.in_hand-held (dropped s (token m)) (token rest) u.chain) in (
        (
          subst (λ (s : StoreValue). IsInHand s (token rest)) (sym s2-is) (in-hand-held (dropped s (token m)) (token rest) u.chain fresh),
          ap (λ (s : StoreValue). dropped s (token rest)) s2-is ∙ laws.dropped-held (dropped s (token m)) (token rest) u.chain ∙ e,
        ),
        omega arith,
      )
