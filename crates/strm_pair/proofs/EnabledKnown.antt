-- Enabled queues of modules are those of modules that stand, of which there are some.
use Rattle.strm_pair.proofs.Prelude.{ℕ, ◌≡◌, Bool, true, false, List, [], ◌∷◌, map, refl, subst, ◌&&◌, ◌||◌}
use Rattle.strm_pair.specs.Prelude.{ModuleName, Place, QueueName, Side, Master, Slave, Way, same_module, have_queues, State, stream, stands_of}
use Rattle.strm_pair.specs.Prelude.{module_name, Behaviour}
use Rattle.std.specs.List.{AllByRecursion, list_any}
use Rattle.strm_types.specs.declared.names.Place.TheVariants as places
use Rattle.strm_types.specs.Names.{AreQueues, has_queues_at}
use Rattle.strm_types.proofs.EnabledNames.{same_module-sound}
use Rattle.strm_laws.specs.Known.{all_known, are_known}
use Rattle.strm_laws.specs.Pushes.{is_known}
use Rattle.strm_laws.specs.Restorable.{IsThere, is_there_among}
use Rattle.strm_laws.specs.StackCosts.{Stands, stands_on}
use Rattle.strm_pair.specs.Enabling.{AreKnownThere, is_known_at}

both : (a b : Bool) → (a && b) ≡ true → (a ≡ true) × (b ≡ true)
both true b is = (refl, is)
both false b is = absurd (cc)

-- one that is among known names is known
one-known : (K : Behaviour) (name : ModuleName) (on : List ModuleName) → are_known K on ≡ true → list_any (λ n. same_module n name) on ≡ true
    → is_known K name ≡ true
one-known K name [] all is = absurd (cc)
one-known K name (n ∷ on) all is = by (same_module n name) (one-known K name on parts.1) refl is
  where
    parts : (is_known K n ≡ true) × (are_known K on ≡ true)
    parts = both (is_known K n) (are_known K on) all

    by : (same : Bool) → (list_any (λ m. same_module m name) on ≡ true → is_known K name ≡ true) → same_module n name ≡ same
        → (same || list_any (λ m. same_module m name) on) ≡ true → is_known K name ≡ true
    by true rest same is = subst (λ m. is_known K m ≡ true) (same_module-sound n name same) parts.0
    by false rest same is = rest is

module _ (K : Behaviour) (s : State ℕ) (known : all_known K s ≡ true) where
  sides : (are_known K (map module_name (stream Master s).modules) ≡ true) × (are_known K (map module_name (stream Slave s).modules) ≡ true)
  sides = both _ _ known

  on-side : (side : Side) → are_known K (stands_on side (stands_of s)) ≡ true
  on-side Master = sides.0
  on-side Slave = sides.1

  at-place : (side : Side) (place : Place) (way : Way) → is_there_among place way (stands_on side (stands_of s)) ≡ true → is_known_at K place ≡ true
  at-place side places.Head way is = refl
  at-place side places.Driver way is = refl
  at-place side (places.Module name) way is =
      one-known K name (stands_on side (stands_of s)) (on-side side) (both (have_queues name) _ is).1

  pub enabled-known : (names : List QueueName) → AllByRecursion (IsThere (stands_of s)) names → AreKnownThere K names
  enabled-known [] there = tt
  enabled-known (n ∷ names) there = (at-place n.side n.place n.way there.0, enabled-known names there.1)

-- and each is of a place where queues stand
there-queues-at : (place : Place) (way : Way) (on : List ModuleName) → is_there_among place way on ≡ true → has_queues_at place ≡ true
there-queues-at places.Head way on is = refl
there-queues-at places.Driver way on is = refl
there-queues-at (places.Module name) way on is = (both (have_queues name) _ is).0

pub there-queues : (all : Stands) (names : List QueueName) → AllByRecursion (IsThere all) names → AreQueues names
there-queues all [] there = tt
there-queues all (n ∷ names) there = (there-queues-at n.place n.way (stands_on n.side all) there.0, there-queues all names there.1)
