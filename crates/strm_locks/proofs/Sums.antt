-- Sums over the views of a lock's table, and over what they were told.
use Rattle.std.proofs.Common.{◌≡◌, ◌≢◌, ℕ, zero, suc, ◌+◌, ◌-◌, ◌≤◌, List, [], ◌∷◌, ◌++◌, ⊎_elim, set, sym, refl, ap, subst, arith}
use mathlib.Core.Option.{some, some-injective, some-ne-none}
use lib.ListN.{get_elem?}
use Rattle.atomic_table.proofs.Lists.{at_set, at_snoc}
use Rattle.strm_types.specs.Journal.{PlainEntry}
use Rattle.strm_locks.specs.declared.told.Told.{Told}
use Rattle.strm_locks.specs.declared.view.View.{View}
use Rattle.strm_locks.specs.Books.{pick, told, nothing, plus, minus, weigh}
use Rattle.strm_locks.specs.Rules.{total}

pub total-set : (f : View → ℕ) (vs : List View) (i : ℕ) (v w : View) → get_elem? vs i ≡ some v → total f (set vs i w) + f v ≡ total f vs + f w
total-set f [] i v w e = absurd (some-ne-none v (sym e))
total-set f (x ∷ xs) zero v w e = let is : f x ≡ f v = ap f (some-injective x v e) in omega arith
total-set f (x ∷ xs) (suc i) v w e = let r = total-set f xs i v w e in omega arith

pub total-append : (f : View → ℕ) (vs ws : List View) → total f (vs ++ ws) ≡ total f vs + total f ws
total-append f [] ws = omega arith
total-append f (x ∷ xs) ws = let r = total-append f xs ws in omega arith

pub total-at : (f : View → ℕ) (vs : List View) (i : ℕ) (v : View) → get_elem? vs i ≡ some v → f v ≤ total f vs
total-at f [] i v e = absurd (some-ne-none v (sym e))
total-at f (x ∷ xs) zero v e = let is : f x ≡ f v = ap f (some-injective x v e) in omega arith
total-at f (x ∷ xs) (suc i) v e = let r = total-at f xs i v e in omega arith

pub total-two : (f : View → ℕ) (vs : List View) (i j : ℕ) (v u : View) → j ≢ i → get_elem? vs i ≡ some v → get_elem? vs j ≡ some u → f v + f u ≤ total f vs
total-two f [] i j v u apart e g = absurd (some-ne-none v (sym e))
total-two f (x ∷ xs) zero zero v u apart e g = absurd (apart refl)
total-two f (x ∷ xs) zero (suc j) v u apart e g = let is : f x ≡ f v = ap f (some-injective x v e) in let r = total-at f xs j u g in omega arith
total-two f (x ∷ xs) (suc i) zero v u apart e g = let is : f x ≡ f u = ap f (some-injective x u g) in let r = total-at f xs i v e in omega arith
total-two f (x ∷ xs) (suc i) (suc j) v u apart e g = let r = total-two f xs i j v u (λ k. apart (ap suc k)) e g in omega arith

pub total-none : (f : View → ℕ) (vs : List View) → ((j : ℕ) (u : View) → get_elem? vs j ≡ some u → f u ≡ 0) → total f vs ≡ 0
total-none f [] none_of = refl
total-none f (x ∷ xs) none_of = let a = none_of 0 x refl in let b = total-none f xs (λ j u e. none_of (suc j) u e) in omega arith

-- where f is 0 of each other view, the sum is f of this one
pub total-alone : (f : View → ℕ) (vs : List View) (i : ℕ) (v : View) → get_elem? vs i ≡ some v → ((j : ℕ) (u : View) → j ≢ i → get_elem? vs j ≡ some u → f u ≡ 0) → total f vs ≡ f v
total-alone f [] i v e others = absurd (some-ne-none v (sym e))
total-alone f (x ∷ xs) zero v e others = let is : f x ≡ f v = ap f (some-injective x v e) in let b = total-none f xs (λ j u g. others (suc j) u (λ k. omega arith) g) in omega arith
total-alone f (x ∷ xs) (suc i) v e others = let a = others 0 x (λ k. omega arith) refl in let b = total-alone f xs i v e (λ j u apart g. others (suc j) u (λ k. apart (omega arith)) g) in omega arith

-- a view is cut in two, and one takes in another
pub total-split : (f : View → ℕ) (vs : List View) (i : ℕ) (v w o : View) → get_elem? vs i ≡ some v → f w + f o ≡ f v → total f (set vs i w ++ o ∷ []) ≡ total f vs
total-split f vs i v w o e halves = let a = total-append f (set vs i w) (o ∷ []) in let b = total-set f vs i v w e in omega arith

pub total-join : (f : View → ℕ) (vs : List View) (i j : ℕ) (v w u o : View) → get_elem? vs i ≡ some v → get_elem? (set vs i w) j ≡ some u → f w + f o ≡ f v + f u
    → total f (set (set vs i w) j o) ≡ total f vs
total-join f vs i j v w u o e g both = let a = total-set f (set vs i w) j u o g in let b = total-set f vs i v w e in omega arith

-- a fact of each view stays where one view is set, and where one more comes
pub each_set : (F : ℕ → View → Type 0) (vs : List View) (id : ℕ) (w : View) → F id w → ((j : ℕ) (u : View) → j ≢ id → get_elem? vs j ≡ some u → F j u) → (j : ℕ) (u : View) → get_elem? (set vs id w) j ≡ some u → F j u
each_set F vs id w mine others j u e = ⊎_elim
    (λ (x : (j ≡ id) × (w ≡ u)). subst (λ (y : ℕ × View). F y.0 y.1) (λ i. (sym x.0 i, x.1 i)) mine)
    (λ (x : (j ≢ id) × (get_elem? vs j ≡ some u)). others j u x.0 x.1)
    (at_set vs id j w u e)

pub each_snoc : (F : ℕ → View → Type 0) (vs : List View) (w : View) → ((j : ℕ) (u : View) → get_elem? vs j ≡ some u → F j u) → ((j : ℕ) → F j w) → (j : ℕ) (u : View) → get_elem? (vs ++ w ∷ []) j ≡ some u → F j u
each_snoc F vs w others mine j u e = ⊎_elim (others j u) (λ (x : w ≡ u). subst (F j) x (mine j)) (at_snoc vs w u j e)

-- the five numbers, and the weights of entries

pub pick-plus : (i : ℕ) (a b : Told) → pick i (plus a b) ≡ pick i a + pick i b
pick-plus zero a b = refl
pick-plus (suc zero) a b = refl
pick-plus (suc (suc zero)) a b = refl
pick-plus (suc (suc (suc zero))) a b = refl
pick-plus (suc (suc (suc (suc i)))) a b = refl

pub pick-minus : (i : ℕ) (a b : Told) → pick i (minus a b) ≡ pick i a - pick i b
pick-minus zero a b = refl
pick-minus (suc zero) a b = refl
pick-minus (suc (suc zero)) a b = refl
pick-minus (suc (suc (suc zero))) a b = refl
pick-minus (suc (suc (suc (suc i)))) a b = refl

pub pick-nothing : (i : ℕ) → pick i nothing ≡ 0
pick-nothing zero = refl
pick-nothing (suc zero) = refl
pick-nothing (suc (suc zero)) = refl
pick-nothing (suc (suc (suc zero))) = refl
pick-nothing (suc (suc (suc (suc i)))) = refl

pub same_told : (a b : Told) → ((i : ℕ) → pick i a ≡ pick i b) → a ≡ b
same_told a b h = λ k. told (h 0 k) (h 1 k) (h 2 k) (h 3 k) (h 4 k)

pub weigh-append : (h : PlainEntry → ℕ) (xs ys : List PlainEntry) → weigh h (xs ++ ys) ≡ weigh h xs + weigh h ys
weigh-append h [] ys = omega arith
weigh-append h (x ∷ xs) ys = let r = weigh-append h xs ys in omega arith
