-- A number of each queue of a stream's modules, summed over the lists on which they stand.
use Rattle.strm_pair.proofs.Prelude.{ℕ, zero, suc, ◌≡◌, ◌≤◌, ◌<◌, ◌+◌, ◌*◌, List, [], ◌∷◌, refl, ap, ◌∙◌, arith, Option, None, Some, sum_by, sum_by-cons}
use Rattle.strm_pair.specs.Prelude.{Message, Queue, Standing, StoreValue, messages_on, queues_of_modules, stood}
use Rattle.strm_types.specs.Standings.{QueuePair}
use Rattle.strm_pair.specs.Shows.{ShowsModules, one_pair, pairs_of}

-- the sum over so many pairs of lists, from a number on
abbrev pub sum_pairs : (ℕ → ℕ) → ℕ → ℕ → ℕ
sum_pairs f first zero = 0
sum_pairs f first (suc n) = sum_pairs f first n + (f (first + 2 * n) + f (first + 2 * n + 1))

module _ (s : StoreValue) (first : ℕ) (g : List (Message ℕ) → ℕ) where
  abbrev on_list : ℕ → ℕ
  on_list k = g (messages_on s k)

  abbrev on_queues : List (Standing ℕ) → ℕ
  on_queues ps = sum_by (λ (q : Queue ℕ). g q.messages) (queues_of_modules ps)

  pub queues-sum : (ps : List (Standing ℕ)) → ShowsModules s first ps
      → sum_by (λ (q : Queue ℕ). g q.messages) (queues_of_modules ps) ≡ sum_pairs (λ k. g (messages_on s k)) first (pairs_of ps)
  queues-sum [] shows = refl
  queues-sum (p ∷ ps) shows = by p.queues shows (queues-sum ps shows.1)
    where
      by : (queues : Option (QueuePair ℕ)) → (let y = stood p.part queues in ShowsModules s first (y ∷ ps) → on_queues ps ≡ sum_pairs on_list first (pairs_of ps)
          → on_queues (y ∷ ps) ≡ sum_pairs on_list first (pairs_of (y ∷ ps)))
      by None shows below =
          let y : Standing ℕ = stood p.part None in
          let same : pairs_of ps ≡ pairs_of (y ∷ ps) = omega (arith, sum_by-cons (λ (z : Standing ℕ). one_pair z.queues) y ps) in
          below ∙ ap (sum_pairs on_list first) same
      by (Some pair) shows below =
          let y : Standing ℕ = stood p.part (Some pair) in
          let qs = queues_of_modules ps in
          let n = pairs_of ps in
          let more : pairs_of (y ∷ ps) ≡ suc n = omega (arith, sum_by-cons (λ (z : Standing ℕ). one_pair z.queues) y ps) in
          omega (
            arith,
            sum_by-cons (λ (q : Queue ℕ). g q.messages) pair.read (pair.write ∷ qs),
            sum_by-cons (λ (q : Queue ℕ). g q.messages) pair.write qs,
            below,
            ap g shows.0.0,
            ap g shows.0.1,
            ap (sum_pairs on_list first) more,
          )

-- where there are fewer pairs the lists behind count for nothing
pub three-pairs : (f : ℕ → ℕ) (first n : ℕ) → n ≤ 3 → ((k : ℕ) → first + 2 * n ≤ k → k < first + 6 → f k ≡ 0) → sum_pairs f first n ≡ sum_pairs f first 3
three-pairs f first zero few none = omega (
  arith,
  none (first + 2 * 0) (omega arith) (omega arith),
  none (first + 2 * 0 + 1) (omega arith) (omega arith),
  none (first + 2 * 1) (omega arith) (omega arith),
  none (first + 2 * 1 + 1) (omega arith) (omega arith),
  none (first + 2 * 2) (omega arith) (omega arith),
  none (first + 2 * 2 + 1) (omega arith) (omega arith),
)
three-pairs f first (suc zero) few none = omega (
  arith,
  none (first + 2 * 1) (omega arith) (omega arith),
  none (first + 2 * 1 + 1) (omega arith) (omega arith),
  none (first + 2 * 2) (omega arith) (omega arith),
  none (first + 2 * 2 + 1) (omega arith) (omega arith),
)
three-pairs f first (suc (suc zero)) few none = omega (
  arith,
  none (first + 2 * 2) (omega arith) (omega arith),
  none (first + 2 * 2 + 1) (omega arith) (omega arith),
)
three-pairs f first (suc (suc (suc zero))) few none = refl
three-pairs f first (suc (suc (suc (suc n)))) few none = absurd (omega (arith, few))

-- the six lists behind a side's first two, by their numbers
pub six-lists : (f : ℕ → ℕ) (k : ℕ) → sum_pairs f (k + 2) 3 ≡ f (k + 2) + (f (k + 3) + (f (k + 4) + (f (k + 5) + (f (k + 6) + f (k + 7)))))
six-lists f k =
    let a : k + 2 + 2 * 0 ≡ k + 2 = omega arith in
    let b : k + 2 + 2 * 0 + 1 ≡ k + 3 = omega arith in
    let c : k + 2 + 2 * 1 ≡ k + 4 = omega arith in
    let d : k + 2 + 2 * 1 + 1 ≡ k + 5 = omega arith in
    let e : k + 2 + 2 * 2 ≡ k + 6 = omega arith in
    let h : k + 2 + 2 * 2 + 1 ≡ k + 7 = omega arith in
    omega (arith, ap f a, ap f b, ap f c, ap f d, ap f e, ap f h)
