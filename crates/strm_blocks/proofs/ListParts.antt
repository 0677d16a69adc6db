-- Lists that are cut at a place, changed there and joined again.
use Rattle.std.proofs.Common.{ℕ, zero, suc, ◌≡◌, ◌<◌, ◌+◌, Bool, true, false, not, cond, List, [], ◌∷◌, ◌++◌, length, take, drop, get_or, filter, refl, sym, ap, ◌∙◌, arith}
use Rattle.std.proofs.Math.ListN.{set}
use Rattle.std.specs.Prelude.{sum_by, replicate}
use Rattle.std.specs.List.{prefix_len}
use Rattle.std.proofs.lemmas.List.{drop-drop, append_assoc, ext_get_or, length-replicate, get_or-replicate}
use Rattle.std.proofs.lemmas.List.Sums.{sum_by-cons}

module _ {A : Type 0} where
  -- the part from a place on, with another member in front
  pub set-behind : (xs : List A) (at : ℕ) (y : A) → take at xs ++ set (drop at xs) 0 y ≡ set xs at y
  set-behind xs zero y = refl
  set-behind [] (suc at) y = refl
  set-behind (x ∷ xs) (suc at) y = ap (λ rest. x ∷ rest) (set-behind xs at y)

  -- the part behind a place
  pub drop-one-more : (xs : List A) (at : ℕ) → drop 1 (drop at xs) ≡ drop (suc at) xs
  drop-one-more xs at = drop-drop 1 at xs ∙ (let e : at + 1 ≡ suc at = omega arith in ap (λ k. drop k xs) e)

-- the first member goes to a list or not, and the rest is still to come
pub filter-first : {A : Type 0} (p : A → Bool) (d : A) (sofar rest : List A) → 0 < length rest → cond (p (get_or rest 0 d)) (sofar ++ (get_or rest 0 d ∷ [])) sofar ++ filter p (take 0 rest ++ drop 1 rest) ≡ sofar ++ filter p rest
filter-first p d sofar [] some = absurd (omega arith)
filter-first p d sofar (x ∷ rest) some = elim (p x) as (λ b. cond b (sofar ++ (x ∷ [])) sofar ++ filter p rest ≡ sofar ++ cond b (x ∷ filter p rest) (filter p rest)) [
  | true ↦ append_assoc sofar (x ∷ []) (filter p rest)
  | false ↦ refl
]

-- the same for the list that takes what fails
pub filter-first_not : {A : Type 0} (p : A → Bool) (d : A) (sofar rest : List A) → 0 < length rest → cond (p (get_or rest 0 d)) sofar (sofar ++ (get_or rest 0 d ∷ [])) ++ filter (λ x. not (p x)) (take 0 rest ++ drop 1 rest) ≡ sofar ++ filter (λ x. not (p x)) rest
filter-first_not p d sofar [] some = absurd (omega arith)
filter-first_not p d sofar (x ∷ rest) some = elim (p x) as (λ b. cond b sofar (sofar ++ (x ∷ [])) ++ filter (λ x. not (p x)) rest ≡ sofar ++ cond (not b) (x ∷ filter (λ x. not (p x)) rest) (filter (λ x. not (p x)) rest)) [
  | true ↦ refl
  | false ↦ append_assoc sofar (x ∷ []) (filter (λ x. not (p x)) rest)
]

-- what passes and what fails weigh as much as all
pub sum-filter : {A : Type 0} (g : A → ℕ) (p : A → Bool) (xs : List A) → sum_by g (filter (λ x. not (p x)) xs) + sum_by g (filter p xs) ≡ sum_by g xs
sum-filter g p [] = refl
sum-filter g p (x ∷ xs) = elim (p x) as (λ b. sum_by g (cond (not b) (x ∷ filter (λ x. not (p x)) xs) (filter (λ x. not (p x)) xs)) + sum_by g (cond b (x ∷ filter p xs) (filter p xs)) ≡ sum_by g (x ∷ xs)) [
  | true ↦ (let ih = sum-filter g p xs in omega (arith, sum_by-cons g x xs, sum_by-cons g x (filter p xs)))
  | false ↦ (let ih = sum-filter g p xs in omega (arith, sum_by-cons g x xs, sum_by-cons g x (filter (λ x. not (p x)) xs)))
]

-- lists that are all empty weigh nothing
pub sums-empty : {A : Type 0} (g : A → ℕ) (n : ℕ) → sum_by (λ q. sum_by g q) (replicate n []) ≡ 0
sums-empty g zero = refl
sums-empty g (suc n) = let ih = sums-empty g n in omega (arith, sum_by-cons (λ q. sum_by g q) [] (replicate n []))

-- lists that are empty below a number of them
pub all-empty : {A : Type 0} (lists : List (List A)) (n : ℕ) → length lists ≡ n → ((k : ℕ) → k < n → get_or lists k [] ≡ []) → lists ≡ replicate n []
all-empty {A} lists n len each = ext_get_or [] lists (replicate n []) (let r = length-replicate {A = List A} n [] in omega arith) (λ k within. each k (omega arith) ∙ sym (get_or-replicate n k [] [] (omega arith)))

-- one more that passes a test stands before the place that is looked for
pub prefix-passed : {A : Type 0} (p : A → Bool) (x : A) (xs rest all : List A) (n : ℕ) → rest ≡ x ∷ xs → p x ≡ true → n + prefix_len p rest ≡ prefix_len p all → n + 1 + prefix_len p xs ≡ prefix_len p all
prefix-passed p x xs rest all n is passes sofar =
    let here : prefix_len p (x ∷ xs) ≡ 1 + prefix_len p xs = rw passes refl in
    let whole = ap (λ ys. prefix_len p ys) is in
    omega arith
