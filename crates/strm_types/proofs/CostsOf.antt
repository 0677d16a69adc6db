-- What messages on their way cost, one beside the others, whatever each costs.
use Rattle.std.proofs.Common.{ℕ, ◌≡◌, ◌≤◌, ◌+◌, Bool, true, false, cond, List, [], ◌∷◌, ◌++◌, map, refl, subst, sym, arith}
use Rattle.std.specs.Prelude.{sum_by}
use Rattle.std.proofs.lemmas.List.Sums.{sum_by-cons}
use Rattle.strm_types.specs.declared.spots.Spot.{Spot}
use Rattle.strm_types.specs.declared.names.Way.{Way}
use Rattle.strm_types.specs.declared.names.Way.TheVariants.{Up, Down}
use Rattle.strm_types.specs.Budgets.{cost_of, most, most_on}
use Rattle.strm_types.specs.Deliver.{Acted, Parcel}
use Rattle.strm_types.specs.Message.{Message}
use Rattle.strm_types.specs.Shapes.{At, Shape, Held, at_of, shape_of}

pub none-few : (C : Type 0) (cost : At → ℕ) (most : ℕ) → cost_of {C = C} cost [] ≤ most
unfolding cost_of
none-few C cost most = omega arith

module _ {C : Type 0} (cost : At → ℕ) where
  abbrev pub Few : ℕ → List (Parcel C) → Type 0
  Few most sent = cost_of cost sent ≤ most

  pub one-few : (most : ℕ) (to : Spot) (m : Message C) → cost (record { to = to; shape = shape_of m }) ≤ most → Few most (record { to = to; message = m } ∷ [])
  unfolding cost_of
  one-few most to m few = omega (arith, few)

  pub cost-more : (p : Parcel C) (ps : List (Parcel C)) → cost_of cost (p ∷ ps) ≡ cost (at_of p) + cost_of cost ps
  unfolding cost_of
  cost-more p ps = refl

  pub cost-one : (p : Parcel C) → cost_of cost (p ∷ []) ≡ cost (at_of p)
  unfolding cost_of
  cost-one p = omega arith

  pub more-few : (most : ℕ) (to : Spot) (m : Message C) (ps : List (Parcel C)) → cost (record { to = to; shape = shape_of m }) + cost_of cost ps ≤ most → Few most (record { to = to; message = m } ∷ ps)
  unfolding cost_of
  more-few most to m ps few = omega (arith, few)

  pub both-cost : (ps qs : List (Parcel C)) → cost_of cost (ps ++ qs) ≡ cost_of cost ps + cost_of cost qs
  unfolding cost_of
  both-cost [] qs = omega arith
  both-cost (p ∷ ps) qs = let e = both-cost ps qs in omega (arith, e)

  pub both-few : (few more : ℕ) (ps qs : List (Parcel C)) → Few few ps → Few more qs → Few (few + more) (ps ++ qs)
  both-few few more ps qs first second = let e = both-cost ps qs in omega (arith, e, first, second)

  pub sent-none : (most : ℕ) (S : Type 0) (b : Bool) (one another : Acted C S) → one.sent ≡ [] → another.sent ≡ [] → Few most (cond b one another).sent
  sent-none most S true one another first second = subst (λ ps. Few most ps) (sym first) (none-few C cost most)
  sent-none most S false one another first second = subst (λ ps. Few most ps) (sym second) (none-few C cost most)

-- sums over mapped lists, and over what is no more of each
module _ {A B : Type 0} (f : B → ℕ) (g : A → B) where
  pub sum-map : (xs : List A) → sum_by f (map g xs) ≡ sum_by (λ x. f (g x)) xs
  sum-map [] = refl
  sum-map (x ∷ xs) = omega (arith, sum_by-cons f (g x) (map g xs), sum_by-cons (λ y. f (g y)) x xs, sum-map xs)

pub sum-under : {A : Type 0} (f g : A → ℕ) → ((x : A) → f x ≤ g x) → (xs : List A) → sum_by f xs ≤ sum_by g xs
sum-under f g under [] = omega arith
sum-under f g under (x ∷ xs) = omega (arith, sum_by-cons f x xs, sum_by-cons g x xs, under x, sum-under f g under xs)

pub cost-under : {C : Type 0} (f g : At → ℕ) → ((a : At) → f a ≤ g a) → (ps : List (Parcel C)) → cost_of f ps ≤ cost_of g ps
unfolding cost_of
cost-under f g under [] = omega arith
cost-under f g under (p ∷ ps) = omega (arith, under (at_of p), cost-under f g under ps)

-- a message takes few
pub most-few : (a : At) → most a ≤ 8
most-few a = by a.to.way a.shape
  where
    by : (way : Way) (shape : Shape) → most_on way shape ≤ 8
    by Up Held = omega arith
    by Up _ = omega arith
    by Down Held = omega arith
    by Down _ = omega arith
