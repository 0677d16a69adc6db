-- Values of which each stands once among others: none of them stands among those before it.
use Rattle.std.proofs.Common.{◌≡◌, ℕ, ◌≤◌, ◌+◌, Bool, true, false, cond, List, [], ◌∷◌, ◌++◌, refl, subst, arith}
use Rattle.std.specs.Prelude.{◌||◌}
use Rattle.std.specs.List.{list_any}
use Rattle.std.proofs.lemmas.Bool.{or_parts}

-- None stands among those before it.
unfoldable pub AreNew : {A : Type 0} → (A → A → Bool) → List A → List A → Type 0
AreNew same before [] = Unit {0}
AreNew same before (x ∷ xs) = (list_any (λ y. same y x) before ≡ false) × AreNew same (before ++ x ∷ []) xs

-- how often a value stands in a list
pub record IsCount {A : Type 0} (same : A → A → Bool) (count : A → List A → ℕ) : Type 0 where
  pub none : (x : A) → count x [] ≡ 0
  pub more : (x y : A) (xs : List A) → count x (y ∷ xs) ≡ cond (same y x) 1 0 + count x xs

-- one more counts where it is the same
behind : {A : Type 0} (same : A → A → Bool) (count : A → List A → ℕ) → IsCount same count → (x y : A) (xs : List A) → count x (xs ++ y ∷ []) ≡ count x xs + cond (same y x) 1 0
behind same count is x y [] = omega (arith, is.more x y [], is.none x)
behind same count is x y (z ∷ xs) = omega (arith, is.more x z xs, is.more x z (xs ++ y ∷ []), behind same count is x y xs)

module _ {A : Type 0} (same : A → A → Bool) (reflexive : (x : A) → same x x ≡ true) (count : A → List A → ℕ) (is : IsCount same count) where
  absent : (x : A) (xs : List A) → count x xs ≡ 0 → list_any (λ y. same y x) xs ≡ false
  absent x [] none = refl
  absent x (y ∷ xs) none = at (same y x) (is.more x y xs) (absent x xs)
    where
      at : (b : Bool) → count x (y ∷ xs) ≡ cond b 1 0 + count x xs → (count x xs ≡ 0 → list_any (λ z. same z x) xs ≡ false) → (b || list_any (λ z. same z x) xs) ≡ false
      at true e rest = absurd (omega (arith, e, none))
      at false e rest = rest (omega (arith, e, none))

  new_from : (before xs : List A) → ((x : A) → count x before + count x xs ≤ 1) → AreNew same before xs
  unfolding AreNew
  new_from before [] once = tt
  new_from before (x ∷ xs) once =
      let one : count x (x ∷ xs) ≡ 1 + count x xs = rw (is.more x x xs, reflexive x) refl in
      (absent x before (omega (arith, once x, one)), new_from (before ++ x ∷ []) xs (λ y. omega (arith, once y, is.more y x xs, behind same count is y x before)))

  pub all_new : (xs : List A) → ((x : A) → count x xs ≤ 1) → AreNew same [] xs
  all_new xs once = new_from [] xs (λ x. omega (arith, once x, is.none x))

-- the other way round: where none stands among those before it, each stands there once
module _ {A : Type 0} (same : A → A → Bool) (is_same : (x y : A) → same x y ≡ true → x ≡ y) (count : A → List A → ℕ) (is : IsCount same count) where
  uncounted : (x : A) (xs : List A) → list_any (λ y. same y x) xs ≡ false → count x xs ≡ 0
  uncounted x [] none = is.none x
  uncounted x (y ∷ xs) none =
      let a = or_parts (same y x) (list_any (λ z. same z x) xs) none in
      let other : cond {A = ℕ} (same y x) 1 0 ≡ 0 = rw a.0 refl in
      omega (arith, is.more x y xs, other, uncounted x xs a.1)

  one_more : (before : List A) (x : A) → ((y : A) → count y before ≤ 1) → list_any (λ y. same y x) before ≡ false → (y : A) → count y (before ++ x ∷ []) ≤ 1
  one_more before x once none y = at (same x y) refl
    where
      at : (b : Bool) → same x y ≡ b → count y (before ++ x ∷ []) ≤ 1
      at true e =
          let absent : count y before ≡ 0 = subst (λ z. count z before ≡ 0) (is_same x y e) (uncounted x before none) in
          let one : cond {A = ℕ} (same x y) 1 0 ≡ 1 = rw e refl in
          omega (arith, behind same count is y x before, absent, one)
      at false e =
          let none_more : cond {A = ℕ} (same x y) 1 0 ≡ 0 = rw e refl in
          omega (arith, behind same count is y x before, once y, none_more)

  once_behind : (before xs : List A) → ((y : A) → count y before ≤ 1) → AreNew same before xs → (y : A) → count y before + count y xs ≤ 1
  unfolding AreNew
  once_behind before [] once new y = omega (arith, once y, is.none y)
  once_behind before (x ∷ xs) once new y =
      let rest = once_behind (before ++ x ∷ []) xs (one_more before x once new.0) new.1 y in
      omega (arith, rest, is.more y x xs, behind same count is y x before)

  pub new_once : (xs : List A) → AreNew same [] xs → (y : A) → count y xs ≤ 1
  new_once xs new y = omega (arith, once_behind [] xs (λ x. omega (arith, is.none x)) new y)
