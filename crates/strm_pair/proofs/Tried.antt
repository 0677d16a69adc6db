-- Modules that are tried one after the other, until one has queues of a name.
use Rattle.strm_pair.proofs.Prelude.{ℕ, zero, suc, ◌≡◌, ◌≤◌, ◌<◌, ◌-◌, true, false, List, [], ◌∷◌, drop, length, refl, sym, ap, ◌∙◌, arith}
use Rattle.strm_pair.proofs.Prelude.{length-map, length-take, Option, None, Some, slice_index_or, min}
use Rattle.strm_pair.specs.Prelude.{MODULES, Place, places_of, place_of, named_from, Standing, module_name}
use Rattle.std.specs.Prelude.{take}
use Rattle.strm_pair.specs.Named.{is_there}

-- the places of the first modules are the first places
first-places : (ps : List (Standing ℕ)) (n i : ℕ) → i < n → slice_index_or (places_of (take n ps)) i None ≡ slice_index_or (places_of ps) i None
first-places [] zero i low = absurd (omega (arith, low))
first-places [] (suc n) i low = refl
first-places (p ∷ ps) zero i low = absurd (omega (arith, low))
first-places (p ∷ ps) (suc n) zero low = refl
first-places (p ∷ ps) (suc n) (suc i) low = first-places ps n i (omega (arith, low))

many-within : (ps : List (Standing ℕ)) (n i : ℕ) → i < n → i < length ps → i < length (places_of (take n ps))
many-within [] n i low inside = absurd (omega (arith, inside))
many-within (p ∷ ps) zero i low inside = absurd (omega (arith, low))
many-within (p ∷ ps) (suc n) zero low inside = omega arith
many-within (p ∷ ps) (suc n) (suc i) low inside = omega (arith, many-within ps n i (omega (arith, low)) (omega (arith, inside)))

many-past : (ps : List (Standing ℕ)) (n i : ℕ) → min (length ps) n ≤ i → length (places_of (take n ps)) ≤ i
many-past ps n i past = omega (arith, past, length-map (take n ps) (λ p. place_of (module_name p)), length-take n ps)

-- the places from one on
from-next : (place : Place) (at i : ℕ) (os : List (Option Place)) → i < length os → is_there place (slice_index_or os i None) ≡ false → named_from place at (drop i os) ≡ named_from place (suc at) (drop (suc i) os)
from-next place at i [] low none = absurd (omega (arith, low))
from-next place at zero (None ∷ os) low none = refl
from-next place at zero (Some o ∷ os) low none = rw none refl
from-next place at (suc i) (o ∷ os) low none = from-next place at i os (omega (arith, low)) none

from-here : (place : Place) (at i : ℕ) (os : List (Option Place)) → i < length os → is_there place (slice_index_or os i None) ≡ true → named_from place at (drop i os) ≡ Some at
from-here place at i [] low some = absurd (omega (arith, low))
from-here place at zero (None ∷ os) low some = absurd (cc)
from-here place at zero (Some o ∷ os) low some = rw some refl
from-here place at (suc i) (o ∷ os) low some = from-here place at i os (omega (arith, low)) some

from-none : (place : Place) (at i : ℕ) (os : List (Option Place)) → length os ≤ i → named_from place at (drop i os) ≡ None
from-none place at zero [] past = refl
from-none place at (suc i) [] past = refl
from-none place at zero (o ∷ os) past = absurd (omega (arith, past))
from-none place at (suc i) (o ∷ os) past = from-none place at i os (omega (arith, past))

-- the search from one of the first modules on
abbrev pub named_at : Place → ℕ → List (Standing ℕ) → Option ℕ
named_at place i ps = named_from place (suc i) (drop i (places_of (take MODULES ps)))

module _ (place : Place) (i j : ℕ) (ps : List (Standing ℕ)) (o : Option Place) (next : j ≡ suc i) (low : i < MODULES) (inside : i < length ps) (is : o ≡ slice_index_or (places_of ps) (j - 1) None) where
  there : is_there place (slice_index_or (places_of (take MODULES ps)) i None) ≡ is_there place o
  there =
      let same : i ≡ j - 1 = omega (arith, next) in
      ap (is_there place) (first-places ps MODULES i low ∙ ap (λ k. slice_index_or (places_of ps) k None) same ∙ sym is)

  pub named-next : false ≡ is_there place o → named_at place j ps ≡ named_at place i ps
  named-next none = ap (λ k. named_at place k ps) next ∙ sym (from-next place (suc i) i (places_of (take MODULES ps)) (many-within ps MODULES i low inside) (there ∙ sym none))

  pub named-here : true ≡ is_there place o → Some j ≡ named_at place i ps
  named-here some = ap (λ k. Some k) next ∙ sym (from-here place (suc i) i (places_of (take MODULES ps)) (many-within ps MODULES i low inside) (there ∙ sym some))

pub named-none : (place : Place) (i : ℕ) (ps : List (Standing ℕ)) → min (length ps) MODULES ≤ i → None ≡ named_at place i ps
named-none place i ps past = sym (from-none place (suc i) i (places_of (take MODULES ps)) (many-past ps MODULES i past))
