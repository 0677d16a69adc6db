-- Enabled queues exist: each is a driver's, or one of a module that stands on its side, and none is enabled twice. So it stays over puts and turns,
-- which change no module's name (STREAMS Programming Guide, "Service Procedures"; qenable(9F)).
use Rattle.strm_laws.proofs.Prelude.{ℕ, zero, suc, ◌≡◌, ◌-◌, Bool, true, false, cond, List, [], ◌∷◌, ◌++◌, map, refl, ap, subst, ◌∙◌, ◌&&◌, ◌||◌, not}
use Rattle.strm_laws.proofs.Prelude.{take}
use Rattle.strm_laws.proofs.Prelude.{min}
use Rattle.strm_laws.proofs.Prelude.{nat_le, slice_index_or, Option, None, Some, once-without}
use Rattle.strm_laws.specs.Prelude.{ModuleName, Place, Driver, QueueName, Side, Master, Slave, Way, Up, Down, Note, Enable, Room, MODULES}
use Rattle.strm_laws.specs.Prelude.{place_before, driver_of, enable_found, enable_if, enable_some, is_enabled, other, same_queue, without}
use Rattle.strm_laws.specs.Prelude.{has_queues_at, have_queues, place_of, same_module, same_place}
use Rattle.std.specs.Prelude.{length}
use Rattle.std.specs.List.{AllByRecursion, list_any}
use Rattle.strm_types.specs.declared.names.Place.TheVariants.{Head}
use Rattle.strm_types.specs.declared.names.Place.TheVariants as places
use Rattle.strm_types.specs.Names.{enable}
use Rattle.strm_laws.specs.Earlier.{before_at, before_by, before_modules, places_of, queue_named}
use Rattle.strm_laws.specs.ModuleTurns.{named_from, place_named}
use Rattle.strm_laws.specs.Puts.{noted}
use Rattle.strm_laws.specs.Restorable.{AreEnabled, IsThere, is_there_among}
use Rattle.strm_laws.specs.StackCosts.{Stands, stands_of, stands_on}
use Rattle.strm_laws.specs.Stacked.{Standing, module_name}
use Rattle.strm_laws.specs.State.{State, stream}
use Rattle.strm_types.proofs.EnabledNames.{once-added, same_module-self, same_place-sound}

-- what may name a queue names one that is there
abbrev pub MayBe : Stands → Option QueueName → Type 0
MayBe all None = Unit {0}
MayBe all (Some name) = IsThere all name

module _ (all : Stands) where
  all-with : (name : QueueName) (names : List QueueName) → IsThere all name → AllByRecursion (IsThere all) names → AllByRecursion (IsThere all) (names ++ name ∷ [])
  all-with name [] one each = (one, tt)
  all-with name (n ∷ names) one each = (each.0, all-with name names one each.1)

  pub enable-there : (name : QueueName) (names : List QueueName) → IsThere all name → AreEnabled all names → AreEnabled all (enable name names)
  enable-there name names one are = at (has_queues_at name.place) (is_enabled name names) refl
    where
      at : (has stands : Bool) → is_enabled name names ≡ stands → AreEnabled all (cond (has && not stands) (names ++ name ∷ []) names)
      at false stands is = are
      at true true is = are
      at true false is = record { once = once-added names name are.once is; there = all-with name names one are.there }

  all-without : (name : QueueName) (names : List QueueName) → AllByRecursion (IsThere all) names → AllByRecursion (IsThere all) (without name names)
  all-without name [] each = tt
  all-without name (n ∷ names) each = at (not (same_queue n name)) (all-without name names each.1)
    where
      at : (stays : Bool) → AllByRecursion (IsThere all) (without name names) → AllByRecursion (IsThere all) (cond stays (n ∷ without name names) (without name names))
      at true more = (each.0, more)
      at false more = more

  pub without-there : (name : QueueName) (names : List QueueName) → AreEnabled all names → AreEnabled all (without name names)
  without-there name names are = record { once = once-without names name are.once; there = all-without name names are.there }

  -- what a put says of its queues names queues that are there
  abbrev pub AreNoted : Side → Option Place → List Note → Type 0
  AreNoted side place [] = Unit {0}
  AreNoted side place (Enable way ∷ notes) = MayBe all (queue_named side way place) × AreNoted side place notes
  AreNoted side place (Room way ∷ notes) = AreNoted side place notes

  -- where the place is there, so is each of its queues
  pub any-noted : (side : Side) (place : Option Place) → ((way : Way) → MayBe all (queue_named side way place)) → (notes : List Note) → AreNoted side place notes
  any-noted side place each [] = tt
  any-noted side place each (Enable way ∷ notes) = (each way, any-noted side place each notes)
  any-noted side place each (Room way ∷ notes) = any-noted side place each notes

-- What holds of the names of enabled queues, and holds still where one that is there joins them, and where one is taken off.
pub record KeepsNames (all : Stands) (P : List QueueName → Type 0) : Type 0 where
  pub joins : (name : QueueName) (names : List QueueName) → IsThere all name → P names → P (enable name names)
  pub leaves : (name : QueueName) (names : List QueueName) → P names → P (without name names)

module _ (all : Stands) (P : List QueueName → Type 0) (keeps : KeepsNames all P) where
  pub found-keeps : (name : Option QueueName) (names : List QueueName) → MayBe all name → P names → P (enable_found name names)
  found-keeps None names one holds = holds
  found-keeps (Some name) names one holds = keeps.joins name names one holds

  pub some-keeps : (goes : Bool) (name : Option QueueName) (names : List QueueName) → MayBe all name → P names → P (enable_some goes name names)
  some-keeps true name names one holds = found-keeps name names one holds
  some-keeps false name names one holds = holds

  pub if-keeps : (goes : Bool) (name : QueueName) (names : List QueueName) → IsThere all name → P names → P (enable_if goes name names)
  if-keeps true name names one holds = keeps.joins name names one holds
  if-keeps false name names one holds = holds

  pub noted-keeps : (side : Side) (place : Option Place) (earlier : Way → Option QueueName) → ((way : Way) → MayBe all (earlier way)) → (notes : List Note) → AreNoted all side place notes
      → (names : List QueueName) → P names → P (noted side place earlier notes names)
  noted-keeps side place earlier before [] fine names holds = holds
  noted-keeps side place earlier before (Enable way ∷ notes) fine names holds =
      noted-keeps side place earlier before notes fine.1 (enable_found (queue_named side way place) names) (found-keeps (queue_named side way place) names fine.0 holds)
  noted-keeps side place earlier before (Room way ∷ notes) fine names holds =
      noted-keeps side place earlier before notes fine (enable_found (earlier way) names) (found-keeps (earlier way) names (before way) holds)

-- that they exist, and are enabled once each
pub exist : (all : Stands) → KeepsNames all (AreEnabled all)
exist all = record { joins = enable-there all; leaves = without-there all }

module _ (all : Stands) where
  pub if-there : (goes : Bool) (name : QueueName) (names : List QueueName) → IsThere all name → AreEnabled all names → AreEnabled all (enable_if goes name names)
  if-there goes name names one are = if-keeps all (AreEnabled all) (exist all) goes name names one are

  pub some-there : (goes : Bool) (name : Option QueueName) (names : List QueueName) → MayBe all name → AreEnabled all names → AreEnabled all (enable_some goes name names)
  some-there goes name names one are = some-keeps all (AreEnabled all) (exist all) goes name names one are

  pub noted-there : (side : Side) (place : Option Place) (earlier : Way → Option QueueName) → ((way : Way) → MayBe all (earlier way)) → (notes : List Note) → AreNoted all side place notes
      → (names : List QueueName) → AreEnabled all names → AreEnabled all (noted side place earlier notes names)
  noted-there side place earlier before notes fine names are = noted-keeps all (AreEnabled all) (exist all) side place earlier before notes fine names are

-- a place of a module is there where the module is
abbrev PlaceAmong : Option Place → List ModuleName → Type 0
PlaceAmong None ns = Unit {0}
PlaceAmong (Some place) ns = (way : Way) → is_there_among place way ns ≡ true

pub more-among : (place : Place) (way : Way) (n : ModuleName) (ns : List ModuleName) → is_there_among place way ns ≡ true → is_there_among place way (n ∷ ns) ≡ true
more-among Head way n ns is = is
more-among Driver Up n ns is = is
more-among Driver Down n ns is = is
more-among (places.Module name) way n ns is = at (have_queues name) (same_module n name) is
  where
    at : (has first : Bool) → (has && list_any (λ n. same_module n name) ns) ≡ true → (has && (first || list_any (λ n. same_module n name) ns)) ≡ true
    at true true is = refl
    at true false is = is
    at false first is = is

one-more : (place : Option Place) (n : ModuleName) (ns : List ModuleName) → PlaceAmong place ns → PlaceAmong place (n ∷ ns)
one-more None n ns is = tt
one-more (Some place) n ns is = λ way. more-among place way n ns (is way)

named-there : (all : Stands) (side : Side) (way : Way) (place : Option Place) → PlaceAmong place (stands_on side all) → MayBe all (queue_named side way place)
named-there all side way None is = tt
named-there all side way (Some place) is = is way

own : (name : ModuleName) (ns : List ModuleName) → PlaceAmong (place_of name) (name ∷ ns)
own name ns = at (have_queues name) refl
  where
    at : (has : Bool) → have_queues name ≡ has → PlaceAmong (cond has (Some (places.Module name)) None) (name ∷ ns)
    at true has = λ way. ap (λ b. b && (same_module name name || list_any (λ n. same_module n name) ns)) has
        ∙ ap (λ b. b || list_any (λ n. same_module n name) ns) (same_module-self name)
    at false has = tt

module _ {C : Type 0} where
  index-among : (ps : List (Standing C)) (i : ℕ) → PlaceAmong (slice_index_or (places_of ps) i None) (map module_name ps)
  index-among [] i = tt
  index-among (p ∷ ps) zero = own (module_name p) (map module_name ps)
  index-among (p ∷ ps) (suc i) = one-more (slice_index_or (places_of ps) i None) (module_name p) (map module_name ps) (index-among ps i)

  on-side : (all : Stands) (s : State C) → stands_of s ≡ all → (side : Side) → map module_name (stream side s).modules ≡ stands_on side all
  on-side all s is Master = ap (λ (a : Stands). stands_on Master a) is
  on-side all s is Slave = ap (λ (a : Stands). stands_on Slave a) is

  pub index-there : (all : Stands) (s : State C) → stands_of s ≡ all → (side : Side) (way : Way) (i : ℕ) → MayBe all (queue_named side way (slice_index_or (places_of (stream side s).modules) i None))
  index-there all s is side way i =
      let place = slice_index_or (places_of (stream side s).modules) i None in
      named-there all side way place (subst (λ ns. PlaceAmong place ns) (on-side all s is side) (index-among (stream side s).modules i))

  -- and so the nearest earlier queues
  pub before-there : (all : Stands) (s : State C) → stands_of s ≡ all → (side : Side) (way : Way) (at : ℕ) → MayBe all (before_at side way at s)
  before-there all s is side way at = by (place_before way at (stream side s).modules)
    where
      ahead : (way : Way) (count : ℕ) → MayBe all (before_modules side way count at)
      ahead Down count = tt
      ahead Up count = over (nat_le at count)
        where
          over : (b : Bool) → MayBe all (cond b (Some (driver_of (other side))) None)
          over true = refl
          over false = tt

      by : (o : Option ℕ) → MayBe all (before_by side way at (places_of (stream side s).modules) o)
      by None = ahead way (min MODULES (length (places_of (stream side s).modules)))
      by (Some place) = index-there all s is side way (place - 1)

  -- The queue whose turn it is of a module that is found by its place is there.
  among-named : (place : Place) (way : Way) (n from : ℕ) (ps : List (Standing C)) (at : ℕ) → named_from place from (places_of (take n ps)) ≡ Some at
      → is_there_among place way (map module_name ps) ≡ true
  among-named place way zero from ps at is = absurd (cc)
  among-named place way (suc n) from [] at is = absurd (cc)
  among-named place way (suc n) from (p ∷ ps) at is =
      by (have_queues (module_name p)) refl (λ more. more-among place way (module_name p) (map module_name ps) (among-named place way n (suc from) ps at more)) is
    where
      Among : Type 0
      Among = is_there_among place way (map module_name (p ∷ ps)) ≡ true

      here : have_queues (module_name p) ≡ true → is_there_among (places.Module (module_name p)) way (map module_name (p ∷ ps)) ≡ true
      here has =
          ap (λ b. b && (same_module (module_name p) (module_name p) || list_any (λ n. same_module n (module_name p)) (map module_name ps))) has
          ∙ ap (λ b. b || list_any (λ n. same_module n (module_name p)) (map module_name ps)) (same_module-self (module_name p))

      chosen : (same : Bool) → same_place (places.Module (module_name p)) place ≡ same → have_queues (module_name p) ≡ true
          → (named_from place (suc from) (places_of (take n ps)) ≡ Some at → Among)
          → cond same (Some from) (named_from place (suc from) (places_of (take n ps))) ≡ Some at → Among
      chosen true same has rest is =
          subst (λ q. is_there_among q way (map module_name (p ∷ ps)) ≡ true) (same_place-sound (places.Module (module_name p)) place same) (here has)
      chosen false same has rest is = rest is

      by : (has : Bool) → have_queues (module_name p) ≡ has → (named_from place (suc from) (places_of (take n ps)) ≡ Some at → Among)
          → named_from place from (cond has (Some (places.Module (module_name p))) None ∷ places_of (take n ps)) ≡ Some at → Among
      by true has rest is = chosen (same_place (places.Module (module_name p)) place) refl has rest is
      by false has rest is = rest is

  pub named-is-there : (all : Stands) (s : State C) → stands_of s ≡ all → (name : QueueName) (at : ℕ)
      → place_named name.place (stream name.side s).modules ≡ Some at → IsThere all name
  named-is-there all s is name at found =
      subst (λ ns. is_there_among name.place name.way ns ≡ true) (on-side all s is name.side)
      (among-named name.place name.way MODULES 1 (stream name.side s).modules at found)
