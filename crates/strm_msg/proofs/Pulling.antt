-- A message without its second block, which was parted from it and freed.
use Rattle.std.proofs.Common.{ℕ, ◌≡◌, ◌≢◌, cond, List, [], ◌∷◌, ◌++◌, length, take, drop, Option, None, Some, refl, sym, ap, ◌∙◌, arith}
use Rattle.std.specs.Prelude.{MatchOption}
use Rattle.strm_blocks.specs.Blocks.{Block, StoreValue, in_hand, held, dropped, changed, IsInHand, IsFreshName, times_in, without, token}
use Rattle.strm_blocks.specs.Outcomes.{Unlinked, UnlinkedLast}
use Rattle.strm_blocks.specs.declared.in_hand.InHand.{InHand}
use Rattle.strm_msg.proofs.Hands.{other-name, held-is, held-chain, held-apart, fresh-before, stays, stays-chain, gone, held-changed, times-replaced, changed-chain, changed-in_hand, changed-twice, changed-same}

-- a message that goes from behind another one
passed : (s : StoreValue) (r q : ℕ) (xs ys : List Block) → q ≢ r → dropped (held (held s r xs) q ys) r ≡ held s q ys
passed s r q xs ys ne =
    ap (λ v. record s { hand = cond v (record { name = r; chain = xs } ∷ s.hand) (record { name = q; chain = ys } ∷ without r (record { name = r; chain = xs } ∷ s.hand)) }) (other-name q r ne) ∙ ap (λ (t : StoreValue). held t q ys) (gone s r xs)

-- a message of one block has no second one
single : (chain : List Block) → length chain ≡ 1 → chain ≡ take 1 chain ++ drop 2 chain
single [] one = absurd (omega arith)
single (b ∷ []) one = refl
single (b ∷ c ∷ chain) one = absurd (omega arith)

pub alone : {s new : StoreValue} {i f : ℕ} → UnlinkedLast s new i f → new ≡ changed s i (take 1 (in_hand s i) ++ drop 2 (in_hand s i))
alone {s} {new} {i} {f} last = last.same ∙ sym (changed-same s i) ∙ ap (λ xs. changed s i xs) (single (in_hand s i) last.single)

-- the first block is parted from what is behind it
module _ {s s1 : StoreValue} {i f r : ℕ} (is : IsInHand s i) (one : Unlinked s s1 i f r) where
  abbrev base : StoreValue
  base = changed s i (one.block ∷ [])

  fresh-behind : IsFreshName base r
  fresh-behind = times-replaced i r (one.block ∷ []) s.hand ∙ one.fresh_name

  base-in_hand : IsInHand base i
  base-in_hand = changed-in_hand s i (one.block ∷ []) i is

  pub behind-in_hand : IsInHand s1 r
  behind-in_hand = ap (λ t. times_in r t.hand) one.after ∙ held-is base r one.chain fresh-behind

  behind-chain : in_hand s1 r ≡ one.chain
  behind-chain = ap (λ t. in_hand t r) one.after ∙ held-chain base r one.chain

  -- there are more behind it
  module _ {s2 s3 : StoreValue} {k q : ℕ} (two : Unlinked s1 s2 r k q) (free : s3 ≡ dropped s2 k) where
    parted : s1 ≡ held base r one.chain
    parted = one.after

    fresh-parted : IsFreshName (held base r one.chain) q
    fresh-parted = ap (λ t. times_in q t.hand) (sym one.after) ∙ two.fresh_name

    fresh-rest : IsFreshName base q
    fresh-rest = fresh-before base r one.chain q fresh-parted

    apart-behind : q ≢ r
    apart-behind = λ e. (let n = ap (λ j. times_in j s1.hand) e in let f = two.fresh_name in let h = behind-in_hand in absurd (omega arith))

    apart-first : q ≢ i
    apart-first = held-apart base q two.chain i fresh-rest base-in_hand

    after : s3 ≡ held base q two.chain
    after =
        free ∙ ap (λ j. dropped s2 j) two.kept_name ∙ ap (λ t. dropped t r) two.after ∙ ap (λ (t : StoreValue). dropped (held (changed t r (two.block ∷ [])) q two.chain) r) one.after ∙ ap (λ (t : StoreValue). dropped (held t q two.chain) r) (held-changed base r one.chain (two.block ∷ [])) ∙ passed base r q (two.block ∷ []) two.chain apart-behind

    pub rest-in_hand : IsInHand s3 q
    rest-in_hand = ap (λ t. times_in q t.hand) after ∙ held-is base q two.chain fresh-rest

    pub first-in_hand : IsInHand s3 f
    first-in_hand = ap (λ j. times_in j s3.hand) one.kept_name ∙ ap (λ t. times_in i t.hand) after ∙ stays base q two.chain i fresh-rest base-in_hand

    pub first-apart : f ≢ q
    first-apart = λ e. apart-first (sym e ∙ one.kept_name)

    pub freed-more : {new : StoreValue} → new ≡ changed (dropped s3 q) f (in_hand s3 f ++ in_hand s3 q) → new ≡ changed s i (take 1 (in_hand s i) ++ drop 2 (in_hand s i))
    freed-more {new} link =
        let t = held base q two.chain in
        let first : in_hand t i ≡ one.block ∷ [] = stays-chain base q two.chain i apart-first ∙ changed-chain s i (one.block ∷ []) is in
        let rest : in_hand t q ≡ two.chain = held-chain base q two.chain in
        let whole : in_hand s i ≡ one.block ∷ two.block ∷ two.chain = one.joined ∙ ap (λ xs. one.block ∷ xs) (sym behind-chain ∙ two.joined) in
        link ∙ ap (λ j. changed (dropped s3 q) j (in_hand s3 j ++ in_hand s3 q)) one.kept_name ∙ ap (λ u. changed (dropped u q) i (in_hand u i ++ in_hand u q)) after ∙ ap (λ xs. changed (dropped t q) i (xs ++ in_hand t q)) first ∙ ap (λ xs. changed (dropped t q) i (one.block ∷ xs)) rest ∙ ap (λ u. changed u i (one.block ∷ two.chain)) (gone base q two.chain) ∙ changed-twice s i (one.block ∷ []) (one.block ∷ two.chain) ∙ ap (λ xs. changed s i (take 1 xs ++ drop 2 xs)) (sym whole)

  -- what is parted first of what is behind is in hand
  pub second-in_hand : (s2 : StoreValue) (k : ℕ) (rest : Option InHand) → MatchOption rest (UnlinkedLast s1 s2 r k) (λ q. Unlinked s1 s2 r k (token q)) → IsInHand s2 k
  second-in_hand s2 k None last = ap (λ j. times_in j s2.hand) last.kept_name ∙ ap (λ t. times_in r t.hand) last.same ∙ behind-in_hand
  second-in_hand s2 k (Some q) two =
      let t = changed s1 r (two.block ∷ []) in
      let fresh : IsFreshName t (token q) = times-replaced r (token q) (two.block ∷ []) s1.hand ∙ two.fresh_name in
      ap (λ j. times_in j s2.hand) two.kept_name ∙ ap (λ u. times_in r u.hand) two.after ∙ stays t (token q) two.chain r fresh (changed-in_hand s1 r (two.block ∷ []) r behind-in_hand)
