-- The modules of a side's stream by their places, and the nearest earlier queue with service, which is enabled where a queue has room
-- again (STREAMS Programming Guide, "Flow Control"). Places count from the head's, 0, over the modules from the top, to the driver's.
use Rattle.std.specs.Prelude.{ℕ, ◌≡◌, suc, ◌-◌, min, nat_le, if◌then◌else◌, List, [], length, map, slice_index_or, Option, None, Some}
use Rattle.strm_laws.specs.Prelude.{MODULES, Place, QueueName, Side, Way, Up, Down, AllSides, place_before, driver_of, other, place_of}
use Rattle.strm_laws.specs.Stacked.{Standing, module_name}
use Rattle.strm_laws.specs.State.{State, stream}

-- the queue of a way at a place of a side's stream, where it has queues
abbrev pub queue_named : Side → Way → Option Place → Option QueueName
queue_named side way None = None
queue_named side way (Some place) = Some (record { side = side; place = place; way = way })

-- Before all modules: what comes up was sent by the other side's driver, and nothing with service stands before what goes down. The
-- driver is behind all modules, and so nothing comes up to it.
abbrev pub before_modules : Side → Way → ℕ → ℕ → Option QueueName
before_modules side Down count at = None
before_modules side Up count at = if nat_le at count then Some (driver_of (other side)) else None

-- the nearest earlier queue where it stands at a place of these, as the places have queues, or before all of them
abbrev pub before_by : Side → Way → ℕ → List (Option Place) → Option ℕ → Option QueueName
before_by side way at places None = before_modules side way (min MODULES (length places)) at
before_by side way at places (Some place) = queue_named side way (slice_index_or places (place - 1) None)

module _ {C : Type 0} where
  -- the queues' places of modules, from the top
  abbrev pub places_of : List (Standing C) → List (Option Place)
  places_of ps = map (λ p. place_of (module_name p)) ps

  -- the nearest earlier queue with service, before a place as messages of a way go, on a stream with these modules
  abbrev pub before_among : Side → Way → ℕ → List (Standing C) → Option QueueName
  before_among side way at ps = before_by side way at (places_of ps) (place_before way at ps)

  -- on a side's stream
  abbrev pub before_at : Side → Way → ℕ → State C → Option QueueName
  before_at side way at s = before_among side way at (stream side s).modules

  -- how many modules have a place on a side's stream, as no more than three are pushed; and the place of its driver, behind them
  abbrev pub modules_on : Side → State C → ℕ
  modules_on side s = min MODULES (length (stream side s).modules)

  abbrev pub driver_place : Side → State C → ℕ
  driver_place side s = suc (modules_on side s)

  -- the nearest earlier queue before a side's head, and before its driver
  abbrev pub before_head : Side → State C → Option QueueName
  before_head side s = before_at side Up 0 s

  abbrev pub before_driver : Side → State C → Option QueueName
  before_driver side s = before_at side Down (driver_place side s) s

-- No module stands on either stream.
abbrev pub NoModules : {C : Type 0} → State C → Type 0
NoModules s = AllSides (λ side t. t.modules ≡ []) s.ends
