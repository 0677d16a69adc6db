-- How many blocks of a store are free: no more than its messages leave, and all where it has none.
use Rattle.std.proofs.Common.{ℕ, zero, suc, ◌≡◌, ◌≤◌, ◌+◌, cond, eqb, List, [], ◌∷◌, length, refl, ap, ◌∙◌, arith}
use Rattle.std.specs.Prelude.{sum_by, slice_index_or}
use Rattle.std.proofs.lemmas.Bool.Decides.{nat_tests}
use Rattle.std.proofs.lemmas.List.Sums.{sum_by-cons}
use Rattle.strm_types.specs.declared.limits.TheConstants.{LISTS}
use Rattle.strm_blocks.specs.Blocks.{Block, Held, StoreValue, IsStore, list_at, names_of, references, total, used, free_m, free_d, zeros_below}
use Rattle.strm_blocks.proofs.Laws.{references-is, used-is, free_m-is}
use Rattle.strm_queue.proofs.Sizes.{all-long}

-- the sum of a number over all lists
sum_from : (List (List Block) → ℕ) → List (List (List Block)) → ℕ → ℕ → ℕ
sum_from f lists k zero = 0
sum_from f lists k (suc n) = f (slice_index_or lists k []) + sum_from f lists (suc k) n

sum-shifts : (f : List (List Block) → ℕ) (q : List (List Block)) (lists : List (List (List Block))) (k n : ℕ) → sum_from f (q ∷ lists) (suc k) n ≡ sum_from f lists k n
unfolding sum_from
sum-shifts f q lists k zero = refl
sum-shifts f q lists k (suc n) = ap (λ m. f (slice_index_or lists k []) + m) (sum-shifts f q lists (suc k) n)

sum-all : (f : List (List Block) → ℕ) (lists : List (List (List Block))) → sum_by f lists ≡ sum_from f lists 0 (length lists)
unfolding sum_from
sum-all f [] = refl
sum-all f (q ∷ lists) = omega (arith, sum_by-cons f q lists, sum-all f lists, sum-shifts f q lists 0 (length lists))

-- the sum of a number over the eight lists of a side
abbrev pub side_sum : (ℕ → ℕ) → ℕ → ℕ
side_sum f k = f k + (f (k + 1) + (f (k + 2) + (f (k + 3) + (f (k + 4) + (f (k + 5) + (f (k + 6) + f (k + 7)))))))

pub all-lists : (f : List (List Block) → ℕ) (s : StoreValue) → length s.lists ≡ LISTS
    → sum_by f s.lists ≡ side_sum (λ k. f (list_at s k)) 0 + side_sum (λ k. f (list_at s k)) 8
unfolding sum_from
all-lists f s many = let counted = sum-all f s.lists in let all = ap (λ n. sum_from f s.lists 0 n) many in omega arith

-- each message takes a message block at least
pub used-enough : (s : StoreValue) → IsStore s
    → side_sum (λ k. length (list_at s k)) 0 + side_sum (λ k. length (list_at s k)) 8 ≤ used s
used-enough s is = omega (arith, all-lists (λ q. length q) s is.eight, all-long s.lists, is.filled, used-is s)

-- A store that holds nothing, on its lists and in hand.
pub record IsBare (s : StoreValue) : Type 0 where
  pub hand : s.hand ≡ []
  pub none : sum_by (λ (q : List (List Block)). length q) s.lists ≡ 0

sum-none : (f : List Block → ℕ) (lists : List (List (List Block))) → sum_by (λ (q : List (List Block)). length q) lists ≡ 0 → sum_by (λ q. sum_by f q) lists ≡ 0
sum-none f [] none = refl
sum-none f ([] ∷ lists) none = omega (
  arith,
  sum_by-cons (λ (q : List (List Block)). length q) [] lists,
  sum_by-cons (λ q. sum_by f q) [] lists,
  none,
  sum-none f lists (omega (arith, sum_by-cons (λ (q : List (List Block)). length q) [] lists, none)),
)
sum-none f ((chain ∷ q) ∷ lists) none = absurd (omega (arith, sum_by-cons (λ (r : List (List Block)). length r) (chain ∷ q) lists, none))

total-bare : (f : List Block → ℕ) (s : StoreValue) → IsBare s → total f s ≡ 0
total-bare f s bare =
    let hand : sum_by (λ (h : Held). f h.chain) s.hand ≡ 0 = ap (λ xs. sum_by (λ (h : Held). f h.chain) xs) bare.hand in
    omega (arith, sum-none f s.lists bare.none, hand)

all-zero : (f : ℕ → ℕ) → ((d : ℕ) → f d ≡ 0) → (n : ℕ) → zeros_below f n ≡ n
unfolding zeros_below
all-zero f none zero = refl
all-zero f none (suc n) =
    let ih = all-zero f none n in
    let z = none n in
    let here : cond {A = ℕ} (eqb (f n) 0) 1 0 ≡ 1 = grind (arith, nat_tests) in
    omega arith

-- all its blocks are free
pub bare-free_m : (s : StoreValue) → IsBare s → free_m s ≡ s.mblks
bare-free_m s bare = omega (arith, free_m-is s, used-is s, total-bare length s bare)

pub bare-free_d : (s : StoreValue) → IsBare s → free_d s ≡ s.dblks
unfolding free_d
bare-free_d s bare = all-zero (references s) (λ d. references-is s d ∙ total-bare (names_of d) s bare) s.dblks
