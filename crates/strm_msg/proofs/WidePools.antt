-- Where a store has at least as many data blocks as message blocks, a data block is free for each message block that is.
use Rattle.std.proofs.Common.{ℕ, zero, suc, ◌≡◌, ◌≤◌, ◌+◌, cond, List, [], ◌∷◌, length, refl, arith}
use Rattle.std.specs.Prelude.{sum_by, count_by, nat_lt, ◌==◌}
use Rattle.std.proofs.lemmas.Bool.Decides.{nat_tests}
use Rattle.std.proofs.lemmas.List.Sums.{sum_by-cons, count_by-le-length, sum_by-le-sum_by}
use Rattle.strm_blocks.specs.Blocks.{Block, Held, StoreValue, free_d, free_m, names_of, references, total, zeros_below}
use Rattle.strm_blocks.proofs.Laws.{free_m-is, references-is, used-is}

-- how many blocks of a chain name a data block of a number below a bound
abbrev within : ℕ → List Block → ℕ
within n chain = count_by (λ b. nat_lt b.number n) chain

-- a sum whose terms are two numbers each is two sums
sums-both : {X : Type 0} (f g h : X → ℕ) → ((x : X) → h x ≡ f x + g x) → (xs : List X) → sum_by h xs ≡ sum_by f xs + sum_by g xs
sums-both f g h each [] = refl
sums-both f g h each (x ∷ xs) =
    let ih = sums-both f g h each xs in
    let e = each x in
    omega (arith, sum_by-cons f x xs, sum_by-cons g x xs, sum_by-cons h x xs)

-- with one more number, the blocks of that number count too
within-more : (n : ℕ) (chain : List Block) → within (suc n) chain ≡ within n chain + names_of n chain
within-more n chain =
    sums-both (λ (b : Block). cond {A = ℕ} (nat_lt b.number n) 1 0) (λ b. cond (b.number == n) 1 0) (λ b. cond (nat_lt b.number (suc n)) 1 0)
    (λ b. grind (arith, nat_tests)) chain

module _ (s : StoreValue) where
  total-more : (n : ℕ) → total (within (suc n)) s ≡ total (within n) s + total (names_of n) s
  total-more n =
      let each = λ (chain : List Block). within-more n chain in
      let lists = sums-both (λ q. sum_by (within n) q) (λ q. sum_by (names_of n) q) (λ q. sum_by (within (suc n)) q)
      (λ q. sums-both (within n) (names_of n) (within (suc n)) each q) s.lists in
      let hand = sums-both (λ (h : Held). within n h.chain) (λ h. names_of n h.chain) (λ h. within (suc n) h.chain) (λ h. each h.chain) s.hand in
      omega arith

  -- each block is counted once at most
  total-few : (n : ℕ) → total (within n) s ≤ total length s
  total-few n =
      let each = λ (chain : List Block). count_by-le-length (λ (b : Block). nat_lt b.number n) chain in
      let lists = sum_by-le-sum_by (λ q. sum_by (within n) q) (λ q. sum_by length q) s.lists (λ q. sum_by-le-sum_by (within n) length q each) in
      let hand = sum_by-le-sum_by (λ (h : Held). within n h.chain) (λ h. length h.chain) s.hand (λ h. each h.chain) in
      omega arith

  -- of so many numbers each is free, or a block names it
  free-or-named : (n : ℕ) → n ≤ zeros_below (references s) n + total (within n) s
  unfolding zeros_below
  free-or-named zero = omega arith
  free-or-named (suc n) =
      let ih = free-or-named n in
      let more = total-more n in
      let named = references-is s n in
      grind (arith, nat_tests)

  -- a message block that is in use names one data block, so no more of these are in use
  pub free_m-le-free_d : s.mblks ≤ s.dblks → free_m s ≤ free_d s
  unfolding free_d
  free_m-le-free_d wide =
      let all = free-or-named s.dblks in
      let few = total-few s.dblks in
      omega (arith, free_m-is s, used-is s)
