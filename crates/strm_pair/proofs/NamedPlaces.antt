-- The first module whose queues have a name is one of those that have places.
use Rattle.strm_pair.proofs.Prelude.{ℕ, zero, suc, ◌≡◌, ◌≤◌, ◌<◌, ◌+◌, ◌-◌, Bool, true, false, cond, List, [], ◌∷◌, length, map, take, refl, sym, ap}
use Rattle.strm_pair.proofs.Prelude.{◌∙◌, arith, min, Option, None, Some, length-map, length-take}
use Rattle.strm_pair.specs.Prelude.{MODULES, ModuleName, Place, places_of, named_from, place_of, same_place, Standing, module_name}
use Rattle.std.proofs.Common.{slice_index_or}
use Rattle.std.specs.Prelude.{unwrap_or}

module _ (ps : List (Standing ℕ)) where
  -- the places of a stream's modules that have places
  abbrev placed : List (Option Place)
  placed = places_of (take MODULES ps)

  placed-long : length placed ≡ min MODULES (length ps)
  placed-long = length-map (take MODULES ps) (λ p. place_of (module_name p)) ∙ length-take MODULES ps

-- the place of queues that one of these has
place-among : {X : Type 0} (f : X → Standing ℕ) (xs : List X) (i : ℕ) (d : X) → i < length xs → slice_index_or (places_of (map f xs)) i None ≡ place_of (module_name (f (slice_index_or xs i d)))
place-among f [] i d low = absurd (omega (arith, low))
place-among f (x ∷ xs) zero d low = refl
place-among f (x ∷ xs) (suc i) d low = place-among f xs i d (omega (arith, low))

pub place-at : {X : Type 0} (f : X → Standing ℕ) (xs ys : List X) (at : ℕ) (x : X) (kind : ModuleName) → 0 < at → at ≤ length (map f xs) → kind ≡ module_name (f x) → x ≡ slice_index_or ys (at - 1) x → ys ≡ xs
    → place_of kind ≡ slice_index_or (places_of (map f xs)) (at - 1) None
place-at f xs ys at x kind inside within named there same =
    ap place_of (named ∙ ap (λ y. module_name (f y)) (there ∙ ap (λ zs. slice_index_or zs (at - 1) x) same))
    ∙ sym (place-among f xs (at - 1) x (omega (arith, inside, within, length-map xs f)))

-- where one is found, it is one of those
found-from : (name : Place) (at : ℕ) (xs : List (Option Place)) (found : ℕ) → named_from name at xs ≡ Some found → (at ≤ found) × (found < at + length xs)
found-from name at [] found is = absurd (cc (is))
found-from name at (None ∷ xs) found is = let more = found-from name (suc at) xs found is in (omega (arith, more.0), omega (arith, more.1))
found-from name at (Some other ∷ xs) found is = of (same_place other name) (λ next. found-from name (suc at) xs found next) is
  where
    some-is : (a b : ℕ) → Some a ≡ Some b → a ≡ b
    some-is a b is = ap (λ (o : Option ℕ). unwrap_or o 0) is

    of : (same : Bool) → (named_from name (suc at) xs ≡ Some found → (suc at ≤ found) × (found < suc at + length xs)) → cond same (Some at) (named_from name (suc at) xs) ≡ Some found
        → (at ≤ found) × (found < at + length (Some other ∷ xs))
    of true more is = let here : at ≡ found = some-is at found is in (omega (arith, here), omega (arith, here))
    of false more is = let low = more is in (omega (arith, low.0), omega (arith, low.1))

pub found-low : (name : Place) (ps : List (Standing ℕ)) (found : ℕ) → named_from name 1 (places_of (take MODULES ps)) ≡ Some found → (0 < found) × (found ≤ length ps) × (found ≤ MODULES)
found-low name ps found is =
    let low = found-from name 1 (places_of (take MODULES ps)) found is in
    let long = placed-long ps in
    (omega (arith, low.0), omega (arith, low.1, long), omega (arith, low.1, long))
