-- Names of queues, and lists of them in which each stands once.
use Rattle.std.specs.Prelude.{ℕ, ◌≡◌, ◌+◌, ◌≤◌, ◌==◌, nat_le, Bool, true, false, ◌&&◌, not, if◌then◌else◌, List, [], ◌∷◌, ◌++◌, filter, Option, None}
use Rattle.std.specs.Prelude.{Some}
use Rattle.std.specs.List.{AllByRecursion, list_any}
use Rattle.strm_types.specs.declared.limits.TheConstants.{OWN_QUEUED}
use Rattle.strm_types.specs.declared.names.Side.{Side}
use Rattle.strm_types.specs.declared.names.Side.TheVariants.{Master, Slave}
use Rattle.strm_types.specs.declared.names.Way.{Way}
use Rattle.strm_types.specs.declared.names.Way.TheVariants.{Up, Down}
use Rattle.strm_types.specs.declared.names.Place.{Place}
use Rattle.strm_types.specs.declared.names.Place.TheVariants.{Head, Module, Driver}
use Rattle.strm_types.specs.declared.names.QueueName.{QueueName}
use Rattle.strm_types.specs.declared.names.ModuleName.{ModuleName}
use Rattle.strm_types.specs.declared.names.ModuleName.TheVariants as modules
use Rattle.strm_types.specs.declared.names.Dir.{Dir}
use Rattle.strm_types.specs.declared.names.Dir.TheVariants.{MasterToSlave, SlaveToMaster}
use Rattle.strm_types.specs.declared.names.Openness.{Openness}
use Rattle.strm_types.specs.declared.names.Openness.TheVariants.{Never, Open, Closed}

-- the other end of the pair
abbrev pub other : Side → Side
other Master = Slave
other Slave = Master

abbrev pub is_master : Side → Bool
is_master Master = true
is_master Slave = false

-- the direction of what a side writes
abbrev pub direction_from : Side → Dir
direction_from Master = MasterToSlave
direction_from Slave = SlaveToMaster

-- the side that writes in a direction
abbrev pub side_from : Dir → Side
side_from MasterToSlave = Master
side_from SlaveToMaster = Slave

-- whether a side is open now
abbrev pub is_open : Openness → Bool
is_open Open = true
is_open Never = false
is_open Closed = false

-- whether a side was never open
abbrev pub is_never : Openness → Bool
is_never Never = true
is_never Open = false
is_never Closed = false

-- whether a side was closed
abbrev pub is_closed : Openness → Bool
is_closed Closed = true
is_closed Open = false
is_closed Never = false

abbrev pub same_side : Side → Side → Bool
same_side Master Master = true
same_side Slave Slave = true
same_side _ _ = false

abbrev pub same_module : ModuleName → ModuleName → Bool
same_module modules.Ldterm modules.Ldterm = true
same_module modules.Ptem modules.Ptem = true
same_module modules.Pckt modules.Pckt = true
same_module (modules.Own a) (modules.Own b) = a == b
same_module _ _ = false

abbrev pub same_place : Place → Place → Bool
same_place Head Head = true
same_place (Module a) (Module b) = same_module a b
same_place Driver Driver = true
same_place _ _ = false

abbrev pub same_way : Way → Way → Bool
same_way Up Up = true
same_way Down Down = true
same_way _ _ = false

abbrev pub same_queue : QueueName → QueueName → Bool
same_queue a b = same_side a.side b.side && same_place a.place b.place && same_way a.way b.way

-- the queue of a side's driver
abbrev pub driver_of : Side → QueueName
driver_of side = record { side = side; place = Driver; way = Down }

-- the queue of a side's head
abbrev pub head_of : Side → QueueName
head_of side = record { side = side; place = Head; way = Up }

-- whether modules of a name have queues: ldterm(7M) has, and those of a user's own have of numbers from 128 on
abbrev pub have_queues : ModuleName → Bool
have_queues modules.Ldterm = true
have_queues (modules.Own n) = nat_le OWN_QUEUED n
have_queues _ = false

-- the place of the queues of modules of a name, where they have any
abbrev pub place_of : ModuleName → Option Place
place_of name = if have_queues name then Some (Module name) else None

-- whether queues stand at a place: those of a head, of a driver, and of modules that have any
abbrev pub has_queues_at : Place → Bool
has_queues_at Head = true
has_queues_at (Module name) = have_queues name
has_queues_at Driver = true

-- whether a queue has a service procedure: every queue but a head's
abbrev pub has_service_at : Place → Bool
has_service_at Head = false
has_service_at (Module name) = true
has_service_at Driver = true

abbrev pub has_service : QueueName → Bool
has_service name = has_service_at name.place

-- what a side's stream carries up comes from the other side
abbrev pub direction_at : Way → Side → Dir
direction_at Down side = direction_from side
direction_at Up side = direction_from (other side)

-- the direction in which a queue's messages go
abbrev pub direction_of : QueueName → Dir
direction_of name = direction_at name.way name.side

-- whether a queue is enabled
abbrev pub is_enabled : QueueName → List QueueName → Bool
is_enabled name names = list_any (λ n. same_queue n name) names

-- The names with one more at the end, where it isn't among them. None joins them of a place where no queue stands.
abbrev pub enable : QueueName → List QueueName → List QueueName
enable name names = if has_queues_at name.place && not (is_enabled name names) then names ++ name ∷ [] else names

-- the same on a condition
abbrev pub enable_if : Bool → QueueName → List QueueName → List QueueName
enable_if condition name names = if condition then enable name names else names

-- the names with a queue more that may not be there
abbrev pub enable_found : Option QueueName → List QueueName → List QueueName
enable_found None names = names
enable_found (Some name) names = enable name names

-- the same on a condition
abbrev pub enable_some : Bool → Option QueueName → List QueueName → List QueueName
enable_some condition name names = if condition then enable_found name names else names

-- the names without one of them
abbrev pub without : QueueName → List QueueName → List QueueName
without name names = filter (λ n. not (same_queue n name)) names

-- how often a name stands in a list
abbrev pub times : QueueName → List QueueName → ℕ
times name [] = 0
times name (n ∷ names) = (if same_queue n name then 1 else 0) + times name names

-- each name is of a place where queues stand
abbrev pub AreQueues : List QueueName → Type 0
AreQueues names = AllByRecursion (λ name. has_queues_at name.place ≡ true) names

-- each name is one of these
abbrev pub AreAmong : List QueueName → List QueueName → Type 0
AreAmong among names = AllByRecursion (λ name. is_enabled name among ≡ true) names

-- each name stands there at most once
abbrev pub IsOnce : List QueueName → Type 0
IsOnce names = (name : QueueName) → times name names ≤ 1
