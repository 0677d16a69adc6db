-- What the operations on a store's value do to names, chains and sums. Clients of a store cite these.
use Rattle.std.proofs.Common.{ℕ, zero, suc, ◌≡◌, ◌≢◌, ◌≤◌, ◌<◌, ◌+◌, ◌-◌, Bool, true, false, cond, eqb, List, [], ◌∷◌, length, refl, sym, ap, ◌∙◌, arith}
use Rattle.std.specs.Prelude.{sum_by, ◌==◌, nat_lt}
use Rattle.std.proofs.lemmas.Bool.Decides.{nat_tests}
use Rattle.std.proofs.lemmas.List.Sums.{sum_by-cons, sum_by-set}
use Rattle.strm_blocks.specs.Blocks.{Block, Held, StoreValue, chain_in, times_in, without, with_chain, in_hand, IsInHand, list_at, held, dropped, changed, placed, total, names_of, used, references, free_m, free_d, zeros_below, IsStore, missing}

-- how many messages of a name are in hand, with one more
times-held : (i : ℕ) (chain : List Block) (hand : List Held) (j : ℕ) → times_in j (record { name = i; chain = chain } ∷ hand) ≡ cond (eqb i j) 1 0 + times_in j hand
times-held i chain hand j = sum_by-cons (λ (h : Held). cond (h.name == j) 1 0) (record { name = i; chain = chain }) hand

-- where a new message comes in hand, the others still are
pub IsInHand-held_other : (s : StoreValue) (i j : ℕ) (chain : List Block) → i ≢ j → IsInHand s j → IsInHand (held s i chain) j
IsInHand-held_other s i j chain apart here = let t = times-held i chain s.hand j in grind (arith, nat_tests)

pub in_hand-held : (s : StoreValue) (i : ℕ) (chain : List Block) → in_hand (held s i chain) i ≡ chain
in_hand-held s i chain = let yes : (i == i) ≡ true = grind (arith, nat_tests) in ap (λ (b : Bool). cond b chain (chain_in i s.hand)) yes

pub in_hand-held_other : (s : StoreValue) (i j : ℕ) (chain : List Block) → i ≢ j → in_hand (held s i chain) j ≡ in_hand s j
in_hand-held_other s i j chain apart = let no : (i == j) ≡ false = grind (arith, nat_tests) in ap (λ (b : Bool). cond b chain (chain_in j s.hand)) no

-- a new message that is dropped leaves the store as it was
pub dropped-held : (s : StoreValue) (i : ℕ) (chain : List Block) → dropped (held s i chain) i ≡ s
dropped-held s i chain = let yes : (i == i) ≡ true = grind (arith, nat_tests) in ap (λ (b : Bool). record s { hand = cond b s.hand (record { name = i; chain = chain } ∷ without i s.hand) }) yes

-- another chain leaves all names
times-with_chain : (i : ℕ) (chain : List Block) (j : ℕ) (hand : List Held) → times_in j (with_chain i chain hand) ≡ times_in j hand
times-with_chain i chain j [] = refl
times-with_chain i chain j (h ∷ hand) =
    let weight = λ (x : Held). cond {A = ℕ} (x.name == j) 1 0 in
    elim (h.name == i) as (λ b. times_in j (cond b (record h { chain = chain } ∷ hand) (h ∷ with_chain i chain hand)) ≡ times_in j (h ∷ hand)) [
      | true ↦ sum_by-cons weight (record h { chain = chain }) hand ∙ sym (sum_by-cons weight h hand)
      | false ↦ (let ih = times-with_chain i chain j hand in omega (arith, sum_by-cons weight h (with_chain i chain hand), sum_by-cons weight h hand))
    ]

pub IsInHand-changed : (s : StoreValue) (i j : ℕ) (chain : List Block) → IsInHand s j → IsInHand (changed s i chain) j
IsInHand-changed s i j chain here = times-with_chain i chain j s.hand ∙ here

chain-with_chain : (i : ℕ) (chain : List Block) (hand : List Held) → 0 < times_in i hand → chain_in i (with_chain i chain hand) ≡ chain
chain-with_chain i chain [] some = absurd (omega arith)
chain-with_chain i chain (h ∷ hand) some =
    let t = times-held h.name h.chain hand i in
    elim (h.name == i) as (λ b. (h.name == i) ≡ b → chain_in i (cond b (record h { chain = chain } ∷ hand) (h ∷ with_chain i chain hand)) ≡ chain) [
      | true ↦ (λ e. ap (λ (b : Bool). cond b chain (chain_in i hand)) e)
      | false ↦ (λ e. let more : 0 < times_in i hand = grind (arith, nat_tests) in ap (λ (b : Bool). cond b h.chain (chain_in i (with_chain i chain hand))) e ∙ chain-with_chain i chain hand more)
    ] refl

pub in_hand-changed : (s : StoreValue) (i : ℕ) (chain : List Block) → IsInHand s i → in_hand (changed s i chain) i ≡ chain
in_hand-changed s i chain here = chain-with_chain i chain s.hand (omega arith)

chain-with_chain_other : (i j : ℕ) (chain : List Block) → i ≢ j → (hand : List Held) → chain_in j (with_chain i chain hand) ≡ chain_in j hand
chain-with_chain_other i j chain apart [] = refl
chain-with_chain_other i j chain apart (h ∷ hand) = elim (h.name == i) as (λ b. (h.name == i) ≡ b → chain_in j (cond b (record h { chain = chain } ∷ hand) (h ∷ with_chain i chain hand)) ≡ chain_in j (h ∷ hand)) [
  | true ↦ (λ e. let other : (h.name == j) ≡ false = grind (arith, nat_tests) in rw other refl)
  | false ↦ (λ e. elim (h.name == j) as (λ u. cond u h.chain (chain_in j (with_chain i chain hand)) ≡ cond u h.chain (chain_in j hand)) [ true ↦ refl | false ↦ chain-with_chain_other i j chain apart hand ])
] refl

pub in_hand-changed_other : (s : StoreValue) (i j : ℕ) (chain : List Block) → i ≢ j → in_hand (changed s i chain) j ≡ in_hand s j
in_hand-changed_other s i j chain apart = chain-with_chain_other i j chain apart s.hand

-- a message that leaves the hand leaves the others
times-without : (i j : ℕ) → i ≢ j → (hand : List Held) → times_in j (without i hand) ≡ times_in j hand
times-without i j apart [] = refl
times-without i j apart (h ∷ hand) =
    let weight = λ (x : Held). cond {A = ℕ} (x.name == j) 1 0 in
    elim (h.name == i) as (λ b. (h.name == i) ≡ b → times_in j (cond b hand (h ∷ without i hand)) ≡ times_in j (h ∷ hand)) [
      | true ↦ (λ e. let s = sum_by-cons weight h hand in let none : weight h ≡ 0 = grind (arith, nat_tests) in omega arith)
      | false ↦ (λ e. let ih = times-without i j apart hand in omega (arith, sum_by-cons weight h (without i hand), sum_by-cons weight h hand))
    ] refl

pub IsInHand-dropped : (s : StoreValue) (i j : ℕ) → i ≢ j → IsInHand s j → IsInHand (dropped s i) j
IsInHand-dropped s i j apart here = times-without i j apart s.hand ∙ here

chain-without_other : (i j : ℕ) → i ≢ j → (hand : List Held) → chain_in j (without i hand) ≡ chain_in j hand
chain-without_other i j apart [] = refl
chain-without_other i j apart (h ∷ hand) = elim (h.name == i) as (λ b. (h.name == i) ≡ b → chain_in j (cond b hand (h ∷ without i hand)) ≡ chain_in j (h ∷ hand)) [
  | true ↦ (λ e. let other : (h.name == j) ≡ false = grind (arith, nat_tests) in rw other refl)
  | false ↦ (λ e. elim (h.name == j) as (λ u. cond u h.chain (chain_in j (without i hand)) ≡ cond u h.chain (chain_in j hand)) [ true ↦ refl | false ↦ chain-without_other i j apart hand ])
] refl

pub in_hand-dropped : (s : StoreValue) (i j : ℕ) → i ≢ j → in_hand (dropped s i) j ≡ in_hand s j
in_hand-dropped s i j apart = chain-without_other i j apart s.hand

-- Sums over all messages. How many blocks are in use and how often a data block is named are such sums.
module _ (f : List Block → ℕ) where
  pub total-held : (s : StoreValue) (i : ℕ) (chain : List Block) → total f (held s i chain) ≡ f chain + total f s
  total-held s i chain = let t = sum_by-cons (λ (h : Held). f h.chain) (record { name = i; chain = chain }) s.hand in omega arith

  sum-without : (i : ℕ) (hand : List Held) → 0 < times_in i hand → sum_by (λ h. f h.chain) (without i hand) + f (chain_in i hand) ≡ sum_by (λ h. f h.chain) hand
  sum-without i [] some = absurd (omega arith)
  sum-without i (h ∷ hand) some =
      let t = times-held h.name h.chain hand i in
      let s = sum_by-cons (λ (h : Held). f h.chain) h hand in
      elim (h.name == i) as (λ b. (h.name == i) ≡ b → sum_by (λ h. f h.chain) (cond b hand (h ∷ without i hand)) + f (cond b h.chain (chain_in i hand)) ≡ sum_by (λ h. f h.chain) (h ∷ hand)) [
        | true ↦ (λ e. omega arith)
        | false ↦ (λ e. let more : 0 < times_in i hand = grind (arith, nat_tests) in let ih = sum-without i hand more in let w = sum_by-cons (λ (h : Held). f h.chain) h (without i hand) in omega arith)
      ] refl

  pub total-dropped : (s : StoreValue) (i : ℕ) → IsInHand s i → total f (dropped s i) + f (in_hand s i) ≡ total f s
  total-dropped s i here = let w = sum-without i s.hand (omega arith) in omega arith

  sum-with_chain : (i : ℕ) (chain : List Block) (hand : List Held) → 0 < times_in i hand → sum_by (λ h. f h.chain) (with_chain i chain hand) + f (chain_in i hand) ≡ sum_by (λ h. f h.chain) hand + f chain
  sum-with_chain i chain [] some = absurd (omega arith)
  sum-with_chain i chain (h ∷ hand) some =
      let t = times-held h.name h.chain hand i in
      let s = sum_by-cons (λ (h : Held). f h.chain) h hand in
      elim (h.name == i) as (λ b. (h.name == i) ≡ b → sum_by (λ h. f h.chain) (cond b (record h { chain = chain } ∷ hand) (h ∷ with_chain i chain hand)) + f (cond b h.chain (chain_in i hand)) ≡ sum_by (λ h. f h.chain) (h ∷ hand) + f chain) [
        | true ↦ (λ e. let w = sum_by-cons (λ (h : Held). f h.chain) (record h { chain = chain }) hand in omega arith)
        | false ↦ (λ e. let more : 0 < times_in i hand = grind (arith, nat_tests) in let ih = sum-with_chain i chain hand more in let w = sum_by-cons (λ (h : Held). f h.chain) h (with_chain i chain hand) in omega arith)
      ] refl

  pub total-changed : (s : StoreValue) (i : ℕ) (chain : List Block) → IsInHand s i → total f (changed s i chain) + f (in_hand s i) ≡ total f s + f chain
  total-changed s i chain here = let w = sum-with_chain i chain s.hand (omega arith) in omega arith

  pub total-placed : (s : StoreValue) (k : ℕ) (q : List (List Block)) → k < length s.lists → total f (placed s k q) + sum_by f (list_at s k) ≡ total f s + sum_by f q
  total-placed s k q within = let p = sum_by-set (λ (q : List (List Block)). sum_by f q) s.lists k q [] within in omega arith

-- how many blocks are in use, and how often one is named, are sums
pub used-is : (s : StoreValue) → used s ≡ total length s
unfolding used
used-is s = refl

pub references-is : (s : StoreValue) (d : ℕ) → references s d ≡ total (names_of d) s
unfolding references
references-is s d = refl

pub free_m-is : (s : StoreValue) → free_m s ≡ s.mblks - used s
unfolding free_m
free_m-is s = refl

-- how many data blocks are free, where references stay, go down, or one that had none has one
zeros-same : (f g : ℕ → ℕ) → ((d : ℕ) → f d ≡ g d) → (n : ℕ) → zeros_below f n ≡ zeros_below g n
unfolding zeros_below
zeros-same f g same zero = refl
zeros-same f g same (suc n) = let ih = zeros-same f g same n in let s = same n in grind (arith, nat_tests)

pub free_d-same : (s s' : StoreValue) → s'.dblks ≡ s.dblks → ((d : ℕ) → references s' d ≡ references s d) → free_d s' ≡ free_d s
unfolding free_d
free_d-same s s' blocks same = zeros-same (references s') (references s) same s'.dblks ∙ ap (λ n. zeros_below (references s) n) blocks

zeros-fewer : (f g : ℕ → ℕ) → ((d : ℕ) → f d ≤ g d) → (n : ℕ) → zeros_below g n ≤ zeros_below f n
unfolding zeros_below
zeros-fewer f g fewer zero = omega arith
zeros-fewer f g fewer (suc n) = let ih = zeros-fewer f g fewer n in let s = fewer n in grind (arith, nat_tests)

pub free_d-more : (s s' : StoreValue) → s'.dblks ≡ s.dblks → ((d : ℕ) → references s' d ≤ references s d) → free_d s ≤ free_d s'
unfolding free_d
free_d-more s s' blocks fewer = let z = zeros-fewer (references s') (references s) fewer s.dblks in let e = ap (λ n. zeros_below (references s') n) blocks in omega arith

zeros-taken : (f g : ℕ → ℕ) (d : ℕ) → f d ≡ 0 → 0 < g d → ((e : ℕ) → e ≢ d → g e ≡ f e) → (n : ℕ) → zeros_below g n + cond (nat_lt d n) 1 0 ≡ zeros_below f n
unfolding zeros_below
zeros-taken f g d none some others zero = grind (arith, nat_tests)
zeros-taken f g d none some others (suc n) =
    let ih = zeros-taken f g d none some others n in
    elim (eqb n d) as (λ b. (eqb n d ≡ b) → zeros_below g (suc n) + cond (nat_lt d (suc n)) 1 0 ≡ zeros_below f (suc n)) [
      | true ↦ (λ e. let same : n ≡ d = grind (arith, nat_tests) in let a = ap f same in let b = ap g same in grind (arith, nat_tests))
      | false ↦ (λ e. let o = others n (grind (arith, nat_tests)) in let apart : n ≢ d = grind (arith, nat_tests) in grind (arith, nat_tests))
    ] refl

pub free_d-taken : (s s' : StoreValue) (d : ℕ) → s'.dblks ≡ s.dblks → d < s.dblks → references s d ≡ 0 → 0 < references s' d → ((e : ℕ) → e ≢ d → references s' e ≡ references s e) → free_d s' + 1 ≡ free_d s
unfolding free_d
free_d-taken s s' d blocks within none some others =
    let z = zeros-taken (references s) (references s') d none some others s.dblks in
    let e = ap (λ n. zeros_below (references s') n) blocks in
    grind (arith, nat_tests)

-- each message in hand has a block
pub chain-some : (s : StoreValue) (i : ℕ) → IsStore s → IsInHand s i → 0 < length (in_hand s i)
chain-some s i is here = let t = total-dropped missing s i here in let f = is.filled in omega arith
