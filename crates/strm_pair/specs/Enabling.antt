-- The list of enabled queues has room for 14: a driver's on each side, and a read queue and a write queue of each of three modules (qenable(9F)).
use Rattle.std.specs.Prelude.{ℕ, ◌≡◌, ◌≤◌, Bool, true, List, length, Option}
use Rattle.std.specs.List.{AllByRecursion}
use Rattle.strm_pair.specs.Prelude.{MODULES, Place, QueueName, Side, Way, Note, State, StoreValue, before_at, enable_some, stands_of, Behaviour}
use Rattle.strm_types.specs.declared.names.Place.TheVariants.{Module}
use Rattle.strm_laws.specs.Pushes.{is_known}
use Rattle.strm_laws.specs.Restorable.{AreEnabled, IsThere}
use Rattle.strm_laws.specs.StackCosts.{Stands, stands_on}
use Rattle.strm_pair.specs.declared.streams.Streams.{Streams}
use Rattle.strm_pair.specs.Nearest.{noted_on}
use Rattle.strm_pair.specs.Pairs.{state_in}

-- Enabled queues are there, and are enabled once, where modules of these names stand, three on a side at most. The modules that do stand are among
-- them: of a side that is closed modules go one by one, and their queues with them.
pub record AreFewEnabled (s : State ℕ) : Type 0 where
  pub all : Stands
  pub few : (side : Side) → length (stands_on side all) ≤ MODULES
  pub among : (name : QueueName) → IsThere (stands_of s) name → IsThere all name
  pub names : AreEnabled all s.enabled

-- so there is room where a waiting writer before a place is let go
abbrev pub MayLetGo : Side → Way → ℕ → Bool → Streams → Type 0
MayLetGo side way at lets_go p = (s : StoreValue) × (length (enable_some lets_go (before_at side way at (state_in s p)) p.enabled) ≤ 14)

-- and for what a put says of the queues of a place
abbrev pub MayNote : Side → Option Place → ℕ → List Note → Streams → Type 0
MayNote side place at notes p = (s : StoreValue) × (length (noted_on s side place at notes p).enabled ≤ 14)

-- There are modules of the name that a place of queues has, where it has one.
abbrev pub is_known_at : Behaviour → Place → Bool
is_known_at K (Module name) = is_known K name
is_known_at K _ = true

abbrev pub AreKnownThere : Behaviour → List QueueName → Type 0
AreKnownThere K names = AllByRecursion (λ (name : QueueName). is_known_at K name.place ≡ true) names
