-- At most 14 queues are enabled: a driver's on each side, and a read queue and a write queue of each of three modules (qenable(9F)).
use Rattle.strm_laws.proofs.Prelude.{ℕ, ◌≡◌, ◌≤◌, ◌<◌, ◌+◌, Bool, true, false, List, [], ◌∷◌, ◌++◌, length, refl, arith, ◌&&◌, ◌||◌, length-append}
use Rattle.strm_laws.proofs.Prelude.{length-map, map}
use Rattle.strm_laws.proofs.Prelude.{false≢true}
use Rattle.strm_laws.specs.Prelude.{MODULES, ModuleName, Place, Driver, QueueName, Side, Master, Slave, Way, Up, Down, have_queues, is_enabled}
use Rattle.strm_laws.specs.Prelude.{same_module, same_queue, same_side, same_way}
use Rattle.std.specs.List.{AllByRecursion, list_any}
use Rattle.strm_types.specs.declared.names.Place.TheVariants.{Head}
use Rattle.strm_types.specs.declared.names.Place.TheVariants as places
use Rattle.strm_types.specs.Names.{AreAmong}
use Rattle.strm_types.proofs.EnabledNames.{once-few, once-room}
use Rattle.strm_laws.specs.Restorable.{AreEnabled, GoodStream, IsThere, Restorable, is_there_among, queues_on, queues_there}
use Rattle.strm_laws.specs.StackCosts.{Stands, stands_of, stands_on}
use Rattle.strm_laws.specs.Stacked.{module_name}
use Rattle.strm_laws.specs.State.{State, stream}

module _ {A : Type 0} (test : A → Bool) where
  any-first : (xs ys : List A) → list_any test xs ≡ true → list_any test (xs ++ ys) ≡ true
  any-first [] ys is = absurd (false≢true is)
  any-first (x ∷ xs) ys is = at (test x) is (any-first xs ys)
    where
      at : (b : Bool) → (b || list_any test xs) ≡ true → (list_any test xs ≡ true → list_any test (xs ++ ys) ≡ true)
          → (b || list_any test (xs ++ ys)) ≡ true
      at true is more = refl
      at false is more = more is

  any-second : (xs ys : List A) → list_any test ys ≡ true → list_any test (xs ++ ys) ≡ true
  any-second [] ys is = is
  any-second (x ∷ xs) ys is = at (test x) (any-second xs ys is)
    where
      at : (b : Bool) → list_any test (xs ++ ys) ≡ true → (b || list_any test (xs ++ ys)) ≡ true
      at true more = refl
      at false more = more

-- a queue of a module that stands on a side
abbrev queue_of : Side → ModuleName → Way → QueueName
queue_of side name way = record { side = side; place = places.Module name; way = way }

module-among : (side : Side) (way : Way) (name : ModuleName) (on : List ModuleName) → list_any (λ n. same_module n name) on ≡ true
    → is_enabled (queue_of side name way) (queues_on side on) ≡ true
module-among side way name [] is = absurd (false≢true is)
module-among side way name (n ∷ on) is = at side way (same_module n name) is (module-among side way name on)
  where
    at : (side : Side) (way : Way) (same : Bool) → (same || list_any (λ n. same_module n name) on) ≡ true
        → (list_any (λ n. same_module n name) on ≡ true → is_enabled (queue_of side name way) (queues_on side on) ≡ true)
        → ((same_side side side && same && same_way Up way)
        || ((same_side side side && same && same_way Down way) || is_enabled (queue_of side name way) (queues_on side on))) ≡ true
    at Master Up true is more = refl
    at Master Down true is more = refl
    at Slave Up true is more = refl
    at Slave Down true is more = refl
    at Master way false is more = more is
    at Slave way false is more = more is

second-true : (a b : Bool) → (a && b) ≡ true → b ≡ true
second-true true b is = is
second-true false b is = absurd (false≢true is)

-- each queue that is there is one of these
pub there-among : (all : Stands) (name : QueueName) → IsThere all name → is_enabled name (queues_there all) ≡ true
there-among all name is = at name.side name.place name.way is
  where
    on : Side → List QueueName
    on side = queues_on side (stands_on side all)

    at : (side : Side) (place : Place) (way : Way) → is_there_among place way (stands_on side all) ≡ true
        → is_enabled (record { side = side; place = place; way = way }) (queues_there all) ≡ true
    at side Head way is = absurd (false≢true is)
    at side Driver Up is = absurd (false≢true is)
    at Master Driver Down is = refl
    at Slave Driver Down is = refl
    at Master (places.Module name) way is =
        any-first (λ n. same_queue n (queue_of Master name way)) (on Master) (on Slave)
        (module-among Master way name (stands_on Master all) (second-true (have_queues name) _ is))
    at Slave (places.Module name) way is =
        any-second (λ n. same_queue n (queue_of Slave name way)) (on Master) (on Slave)
        (module-among Slave way name (stands_on Slave all) (second-true (have_queues name) _ is))

pub are-among : (all : Stands) (names : List QueueName) → AllByRecursion (λ n. IsThere all n) names → AreAmong (queues_there all) names
are-among all [] each = tt
are-among all (name ∷ names) each = (there-among all name each.0, are-among all names each.1)

on-long : (side : Side) (on : List ModuleName) → length (queues_on side on) ≡ length on + length on
on-long side [] = refl
on-long side (name ∷ on) = omega (arith, on-long side on)

-- on streams with three modules each there are no more of them
there-few : (all : Stands) → ((side : Side) → length (stands_on side all) ≤ MODULES) → length (queues_there all) ≤ 14
there-few all few =
    let master = queues_on Master (stands_on Master all) in
    let slave = queues_on Slave (stands_on Slave all) in
    omega (
      arith,
      length-append master slave,
      on-long Master (stands_on Master all),
      on-long Slave (stands_on Slave all),
      few Master,
      few Slave,
    )

module _ (all : Stands) (few : (side : Side) → length (stands_on side all) ≤ MODULES) (names : List QueueName) (are : AreEnabled all names) where
  pub few-enabled : length names ≤ 14
  few-enabled = omega (arith, there-few all few, once-few (queues_there all) names are.once (are-among all names are.there))

  -- and fewer while one that is there isn't
  pub room-enabled : (name : QueueName) → IsThere all name → is_enabled name names ≡ false → length names < 14
  room-enabled name there absent =
      let among = are-among all names are.there in
      omega (arith, there-few all few, once-room (queues_there all) names name are.once among (there-among all name there) absent)

-- so it is of a pair that an image may hold
module _ {C : Type 0} (s : State C) (good : Restorable s) where
  on-few : (side : Side) → GoodStream side (stream side s) → length (map module_name (stream side s).modules) ≤ MODULES
  on-few side t = omega (arith, t.modules.few, length-map (stream side s).modules module_name)

  three : (side : Side) → length (stands_on side (stands_of s)) ≤ MODULES
  three Master = on-few Master (good.streams Master)
  three Slave = on-few Slave (good.streams Slave)

  pub restorable-few : length s.enabled ≤ 14
  restorable-few = few-enabled (stands_of s) three s.enabled good.enabled

  pub restorable-room : (name : QueueName) → IsThere (stands_of s) name → is_enabled name s.enabled ≡ false → length s.enabled < 14
  restorable-room name there absent = room-enabled (stands_of s) three s.enabled good.enabled name there absent
