-- How many blocks are free once one more message is in hand.
use Rattle.std.proofs.Common.{ℕ, zero, suc, ◌≡◌, ◌≢◌, ◌≤◌, ◌<◌, ◌+◌, cond, eqb, List, [], ◌∷◌, ◌++◌, length, refl, sym, ap, ◌∙◌, arith, inl, inr}
use Rattle.std.proofs.lemmas.Bool.{cases_lt}
use Rattle.std.proofs.lemmas.Bool.Decides.{nat_tests}
use Rattle.std.proofs.lemmas.List.{length-append}
use Rattle.std.proofs.lemmas.List.Sums.{sum_by-cons, sum_by-append}
use Rattle.strm_blocks.specs.Blocks.{Block, Held, StoreValue, total, used, references, free_m, free_d, zeros_below, names_of, in_hand, held}
use Rattle.strm_msg.proofs.Bounds.{chain-le}

-- no number below a bound has 0 in one count and not in another
pub zeros-same : (f g : ℕ → ℕ) → ((d : ℕ) → (f d ≡ 0) → (g d ≡ 0)) → ((d : ℕ) → (g d ≡ 0) → (f d ≡ 0)) → (n : ℕ) → zeros_below g n ≡ zeros_below f n
unfolding zeros_below
zeros-same f g to from zero = refl
zeros-same f g to from (suc n) =
    let ih = zeros-same f g to from n in
    let t = to n in
    let b = from n in
    let here : cond {A = ℕ} (eqb (g n) 0) 1 0 ≡ cond {A = ℕ} (eqb (f n) 0) 1 0 = grind (arith, nat_tests) in
    omega arith

-- counts that differ at one number alone are the same below it
zeros-below : (f g : ℕ → ℕ) (k : ℕ) → ((d : ℕ) → d ≢ k → g d ≡ f d) → (n : ℕ) → n ≤ k → zeros_below g n ≡ zeros_below f n
unfolding zeros_below
zeros-below f g k others zero le = refl
zeros-below f g k others (suc n) le =
    let ih = zeros-below f g k others n (omega arith) in
    let ne : n ≢ k = omega arith in
    let here : cond {A = ℕ} (eqb (g n) 0) 1 0 ≡ cond {A = ℕ} (eqb (f n) 0) 1 0 = ap (λ (v : ℕ). cond {A = ℕ} (eqb v 0) 1 0) (others n ne) in
    omega arith

-- one number that has 0 has it no more
pub zeros-less : (f g : ℕ → ℕ) (k : ℕ) → f k ≡ 0 → 0 < g k → ((d : ℕ) → d ≢ k → g d ≡ f d) → (n : ℕ) → k < n → zeros_below g n + 1 ≡ zeros_below f n
unfolding zeros_below
zeros-less f g k none some others zero within = absurd (omega arith)
zeros-less f g k none some others (suc n) within =
    elim (cases_lt k n) [
      | inr le ↦
          (let e : n ≡ k = omega arith in
          let below = zeros-below f g k others n (omega arith) in
          let fn : f n ≡ 0 = ap f e ∙ none in
          let gn : 0 < g n = (let s = ap g e in omega arith) in
          let here : cond {A = ℕ} (eqb (f n) 0) 1 0 ≡ 1 = grind (arith, nat_tests) in
          let gone : cond {A = ℕ} (eqb (g n) 0) 1 0 ≡ 0 = grind (arith, nat_tests) in
          omega arith)
      | inl lt ↦
          (let ih = zeros-less f g k none some others n lt in
          let ne : n ≢ k = omega arith in
          let here : cond {A = ℕ} (eqb (g n) 0) 1 0 ≡ cond {A = ℕ} (eqb (f n) 0) 1 0 = ap (λ (v : ℕ). cond {A = ℕ} (eqb v 0) 1 0) (others n ne) in
          omega arith)
    ]

module _ (s : StoreValue) (i : ℕ) (chain : List Block) where
  -- a sum over all messages with one more in hand
  pub total-held : (f : List Block → ℕ) → total f (held s i chain) ≡ total f s + f chain
  total-held f = let c = sum_by-cons (λ (h : Held). f h.chain) (record { name = i; chain = chain }) s.hand in omega arith

  pub references-held : (d : ℕ) → references (held s i chain) d ≡ references s d + names_of d chain
  unfolding references
  references-held d = total-held (names_of d)

  pub free_m-held : length chain ≤ free_m s → free_m (held s i chain) + length chain ≡ free_m s
  unfolding free_m used
  free_m-held room = let t = total-held (λ c. length c) in omega arith

-- one more message of one block in a data block that nothing named
pub free_d-fresh : (s : StoreValue) (i : ℕ) (b : Block) → b.number < s.dblks → references s b.number ≡ 0 → free_d (held s i (b ∷ [])) + 1 ≡ free_d s
unfolding free_d
free_d-fresh s i b exists none =
    let one = references-held s i (b ∷ []) b.number in
    let c = sum_by-cons (λ (x : Block). cond (eqb x.number b.number) 1 0) b [] in
    let is : cond {A = ℕ} (eqb b.number b.number) 1 0 ≡ 1 = grind (arith, nat_tests) in
    zeros-less (references s) (references (held s i (b ∷ []))) b.number none (omega arith) (λ d ne.
    (let at = references-held s i (b ∷ []) d in
    let c = sum_by-cons (λ (x : Block). cond (eqb x.number d) 1 0) b [] in
    let not : cond {A = ℕ} (eqb b.number d) 1 0 ≡ 0 = grind (arith, nat_tests) in
    omega arith)) s.dblks exists

-- one more message whose data blocks are all named already
pub free_d-shared : (s : StoreValue) (i : ℕ) (chain : List Block) → ((d : ℕ) → references s d ≡ 0 → names_of d chain ≡ 0) → free_d (held s i chain) ≡ free_d s
unfolding free_d
free_d-shared s i chain named =
    zeros-same (references s) (references (held s i chain)) (λ d none. (let r = references-held s i chain d in let n = named d none in omega arith)) (λ d none. (let r = references-held s i chain d in omega arith)) s.dblks

-- a data block that a message in hand names has a reference
pub named-in_hand : (s : StoreValue) (i d : ℕ) → names_of d (in_hand s i) ≤ references s d
unfolding references
named-in_hand s i d = let le = chain-le (names_of d) i s.hand refl in omega arith

-- two messages in hand, and both as one, take the same blocks
module _ (s : StoreValue) (i j : ℕ) (front back : List Block) where
  references-joined : (d : ℕ) → references (held (held s i front) j back) d ≡ references (held s i (front ++ back)) d
  references-joined d =
      let two = references-held (held s i front) j back d in
      let one = references-held s i front d in
      let both = references-held s i (front ++ back) d in
      let sum = sum_by-append (λ (x : Block). cond (eqb x.number d) 1 0) front back in
      omega arith

  pub free_m-joined : free_m (held (held s i front) j back) ≡ free_m (held s i (front ++ back))
  unfolding free_m used
  free_m-joined =
      let two = total-held (held s i front) j back (λ c. length c) in
      let one = total-held s i front (λ c. length c) in
      let both = total-held s i (front ++ back) (λ c. length c) in
      let sum = length-append front back in
      omega arith

  pub free_d-joined : free_d (held (held s i front) j back) ≡ free_d (held s i (front ++ back))
  unfolding free_d
  free_d-joined =
      zeros-same (references (held s i (front ++ back))) (references (held (held s i front) j back)) (λ d none. references-joined d ∙ none) (λ d none. sym (references-joined d) ∙ none) s.dblks
