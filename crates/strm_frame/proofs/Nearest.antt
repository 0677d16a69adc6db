-- The nearest module that has queues, found one by one.
use Rattle.std.proofs.Common.{ℕ, zero, suc, ◌≡◌, ◌≤◌, ◌<◌, true, false, cond, Bool, List, [], ◌∷◌, length, map, drop, take, get_or, refl, sym, ap, ◌∙◌, arith}
use Rattle.std.specs.Prelude.{Option, None, Some}
use Rattle.strm_types.specs.ModuleQueues.{first_place, last_place}
use Rattle.strm_types.specs.Standings.{Standing, has_queues}

module _ {P C X : Type 0} (f : X → Standing P C) where
  abbrev has : X → Bool
  has x = has_queues (f x)

  -- the next one below
  first-step : (xs : List X) (i : ℕ) (x d : X) (place : ℕ) → i < length xs → x ≡ get_or xs i d →
      first_place place (drop i (map f xs)) ≡ cond (has x) (Some place) (first_place (suc place) (drop (suc i) (map f xs)))
  first-step [] i x d place within is = absurd (omega arith)
  first-step (z ∷ xs) zero x d place within is = ap (λ y. cond (has y) (Some place) (first_place (suc place) (map f xs))) (sym is)
  first-step (z ∷ xs) (suc i) x d place within is = first-step xs i x d place (omega arith) is

  module _ (xs : List X) (i j : ℕ) (x d : X) (next : j ≡ suc i) (within : i < length xs) (is : x ≡ get_or xs i d) where
    pub first-here : true ≡ has x → Some j ≡ first_place (suc i) (drop i (map f xs))
    first-here here =
        ap (λ k. Some k) next
        ∙ ap (λ v. cond v (Some (suc i)) (first_place (suc (suc i)) (drop (suc i) (map f xs)))) here
        ∙ sym (first-step xs i x d (suc i) within is)

    pub first-next : false ≡ has x → first_place (suc j) (drop j (map f xs)) ≡ first_place (suc i) (drop i (map f xs))
    first-next none =
        ap (λ k. first_place (suc k) (drop k (map f xs))) next
        ∙ ap (λ v. cond v (Some (suc i)) (first_place (suc (suc i)) (drop (suc i) (map f xs)))) none
        ∙ sym (first-step xs i x d (suc i) within is)

  -- no more is below
  pub none-below : (xs : List X) (i place : ℕ) → length xs ≤ i → first_place place (drop i (map f xs)) ≡ None
  none-below [] zero place end = refl
  none-below [] (suc i) place end = refl
  none-below (z ∷ xs) zero place end = absurd (omega arith)
  none-below (z ∷ xs) (suc i) place end = none-below xs i place (omega arith)

  -- the next one of the first n
  last-step : (xs : List X) (n i : ℕ) (x d : X) (place : ℕ) (last : Option ℕ) → i < n → i < length xs → x ≡ get_or xs i d →
      last_place place last (drop i (take n (map f xs))) ≡ last_place (suc place) (cond (has x) (Some place) last) (drop (suc i) (take n (map f xs)))
  last-step [] n i x d place last few within is = absurd (omega arith)
  last-step (z ∷ xs) zero i x d place last few within is = absurd (omega arith)
  last-step (z ∷ xs) (suc n) zero x d place last few within is = ap (λ y. last_place (suc place) (cond (has y) (Some place) last) (take n (map f xs))) (sym is)
  last-step (z ∷ xs) (suc n) (suc i) x d place last few within is = last-step xs n i x d place last (omega arith) (omega arith) is

  -- past them nothing is added
  last-end : (xs : List X) (n i place : ℕ) (last : Option ℕ) → n ≤ i → last_place place last (drop i (take n (map f xs))) ≡ last
  last-end [] zero zero place last end = refl
  last-end [] zero (suc i) place last end = refl
  last-end [] (suc n) zero place last end = refl
  last-end [] (suc n) (suc i) place last end = refl
  last-end (z ∷ xs) zero zero place last end = refl
  last-end (z ∷ xs) zero (suc i) place last end = refl
  last-end (z ∷ xs) (suc n) zero place last end = absurd (omega arith)
  last-end (z ∷ xs) (suc n) (suc i) place last end = last-end xs n i place last (omega arith)

  module _ (xs : List X) (n i j : ℕ) (x d : X) (last : Option ℕ) (next : j ≡ suc i) (within : i < length xs) (is : x ≡ get_or xs i d) where
    pub last-here : i < n → true ≡ has x → last_place (suc j) (Some j) (drop j (take n (map f xs))) ≡ last_place (suc i) last (drop i (take n (map f xs)))
    last-here few here =
        ap (λ k. last_place (suc k) (Some k) (drop k (take n (map f xs)))) next
        ∙ ap (λ v. last_place (suc (suc i)) (cond v (Some (suc i)) last) (drop (suc i) (take n (map f xs)))) here
        ∙ sym (last-step xs n i x d (suc i) last few within is)

    pub last-next : i < n → false ≡ has x → last_place (suc j) last (drop j (take n (map f xs))) ≡ last_place (suc i) last (drop i (take n (map f xs)))
    last-next few none =
        ap (λ k. last_place (suc k) last (drop k (take n (map f xs)))) next
        ∙ ap (λ v. last_place (suc (suc i)) (cond v (Some (suc i)) last) (drop (suc i) (take n (map f xs)))) none
        ∙ sym (last-step xs n i x d (suc i) last few within is)

  pub last-past : (xs : List X) (n i j : ℕ) (last : Option ℕ) → j ≡ suc i → n ≤ i →
      last_place (suc j) last (drop j (take n (map f xs))) ≡ last_place (suc i) last (drop i (take n (map f xs)))
  last-past xs n i j last next many = last-end xs n j (suc j) last (omega arith) ∙ sym (last-end xs n i (suc i) last many)

  pub none-above : (xs : List X) (n i place : ℕ) (last : Option ℕ) → length xs ≤ i → last_place place last (drop i (take n (map f xs))) ≡ last
  none-above [] zero zero place last end = refl
  none-above [] zero (suc i) place last end = refl
  none-above [] (suc n) zero place last end = refl
  none-above [] (suc n) (suc i) place last end = refl
  none-above (z ∷ xs) zero zero place last end = refl
  none-above (z ∷ xs) zero (suc i) place last end = refl
  none-above (z ∷ xs) (suc n) zero place last end = absurd (omega arith)
  none-above (z ∷ xs) (suc n) (suc i) place last end = none-above xs n i place last (omega arith)
