-- What the numbers of include/strm.h stand for: one that stands for nothing is None.
use Rattle.std.specs.Prelude.{ℕ, ◌≡◌, ◌-◌, ◌==◌, nat_lt, nat_le, Bool, true, false, if◌then◌else◌, List, length, take, drop, Option, None, Some}
use Rattle.std.specs.Prelude.{option_map}
use Rattle.std.specs.List.{AllByRecursion}
use Rattle.strm_types.specs.declared.answers.Turn.{Turn}
use Rattle.strm_types.specs.declared.answers.Turn.TheVariants as turns
use Rattle.strm_types.specs.declared.events.FlushQueues.{FlushQueues}
use Rattle.strm_types.specs.declared.events.FlushQueues.TheVariants as flushes
use Rattle.strm_types.specs.declared.kinds.Band.{Band}
use Rattle.strm_types.specs.declared.modes.Mode.{Mode}
use Rattle.strm_types.specs.declared.modes.Mode.TheVariants as modes
use Rattle.strm_types.specs.declared.modes.ReadMode.TheVariants.{ByteStream, MessageKeep, MessageDiscard}
use Rattle.strm_types.specs.declared.modes.ControlMode.TheVariants.{Refuse, Data, Discard}
use Rattle.strm_types.specs.declared.modes.Prio.{Prio}
use Rattle.strm_types.specs.declared.modes.Prio.TheVariants as prios
use Rattle.strm_types.specs.declared.modes.Wanted.{Wanted}
use Rattle.strm_types.specs.declared.modes.Wanted.TheVariants as wanteds
use Rattle.strm_types.specs.declared.names.Dir.{Dir}
use Rattle.strm_types.specs.declared.names.ModuleName.{ModuleName}
use Rattle.strm_types.specs.declared.names.ModuleName.TheVariants as modules
use Rattle.strm_types.specs.declared.names.Place.{Place}
use Rattle.strm_types.specs.declared.names.Place.TheVariants.{Head, Module, Driver}
use Rattle.strm_types.specs.declared.names.QueueName.{QueueName}
use Rattle.strm_types.specs.declared.names.Side.{Side}
use Rattle.strm_types.specs.declared.names.Side.TheVariants.{Master, Slave}
use Rattle.strm_types.specs.declared.names.Way.{Way}
use Rattle.strm_types.specs.declared.names.Way.TheVariants.{Up, Down}
use Rattle.strm_types.specs.declared.signals.StopSignal.{StopSignal}
use Rattle.strm_types.specs.declared.signals.StopSignal.TheVariants.{Ttin, Ttou}
use Rattle.strm_types.specs.Names.{direction_from}

-- a side
abbrev pub side_at : ℕ → Option Side
side_at n = if n == 0 then Some Master else (if n == 1 then Some Slave else None)

-- a module of a user's own, of those that have no name
abbrev pub own_at : ℕ → Option ModuleName
own_at n = if nat_lt n 256 then Some (modules.Own n) else None

-- a module: those of a user's own from 16 on
abbrev pub module_at : ℕ → Option ModuleName
module_at n =
    if n == 1 then Some modules.Ldterm else (if n == 2 then Some modules.Ptem else (if n == 3 then Some modules.Pckt
    else (if nat_lt n 16 then None else own_at (n - 16))))

-- the places whose queues calls take by a number: of modules ldterm's alone, as of those of a user's own none stands on a handle's pair
abbrev pub has_number : Place → Bool
has_number (Module modules.Ldterm) = true
has_number (Module _) = false
has_number _ = true

abbrev pub AreNumbered : List QueueName → Type 0
AreNumbered names = AllByRecursion (λ (name : QueueName). has_number name.place ≡ true) names

-- A queue of such a place: of the master 0 to 5, of the slave 6 to 11, from the head down, each place's read queue before its write queue.
abbrev queue_of : Side → Place → Way → Option QueueName
queue_of side place way = Some (record { side = side; place = place; way = way })

abbrev pub queue_at : ℕ → Option QueueName
queue_at n =
    if n == 0 then queue_of Master Head Up else (if n == 1 then queue_of Master Head Down
    else (if n == 2 then queue_of Master (Module modules.Ldterm) Up else (if n == 3 then queue_of Master (Module modules.Ldterm) Down
    else (if n == 4 then queue_of Master Driver Up else (if n == 5 then queue_of Master Driver Down
    else (if n == 6 then queue_of Slave Head Up else (if n == 7 then queue_of Slave Head Down
    else (if n == 8 then queue_of Slave (Module modules.Ldterm) Up else (if n == 9 then queue_of Slave (Module modules.Ldterm) Down
    else (if n == 10 then queue_of Slave Driver Up else (if n == 11 then queue_of Slave Driver Down else None)))))))))))

-- A queue of a module of a user's own: 256 numbers of each side and way.
abbrev queue_of_own : ℕ → Option QueueName
queue_of_own n =
    if nat_lt n 512 then queue_of Master (Module (modules.Own (n - 256))) Up
    else (if nat_lt n 768 then queue_of Master (Module (modules.Own (n - 512))) Down
    else (if nat_lt n 1024 then queue_of Slave (Module (modules.Own (n - 768))) Up
    else (if nat_lt n 1280 then queue_of Slave (Module (modules.Own (n - 1024))) Down else None)))

-- What a number in an answer stands for. No call takes those from 16 on, which are of modules that have no queues or don't stand on a handle's pair:
-- 16 to 19 of ptem, 20 to 23 of pckt, and from 256 on of a user's own.
abbrev pub queue_told : ℕ → Option QueueName
queue_told n =
    if nat_le 256 n then queue_of_own n
    else (if n == 16 then queue_of Master (Module modules.Ptem) Up else (if n == 17 then queue_of Master (Module modules.Ptem) Down
    else (if n == 18 then queue_of Slave (Module modules.Ptem) Up else (if n == 19 then queue_of Slave (Module modules.Ptem) Down
    else (if n == 20 then queue_of Master (Module modules.Pckt) Up else (if n == 21 then queue_of Master (Module modules.Pckt) Down
    else (if n == 22 then queue_of Slave (Module modules.Pckt) Up else (if n == 23 then queue_of Slave (Module modules.Pckt) Down
    else queue_at n))))))))

-- a priority: a band, or 256 for high
abbrev pub prio_at : ℕ → Option Prio
prio_at n = if nat_lt n 256 then Some (prios.Band (record { 0 = n })) else (if n == 256 then Some prios.High else None)

-- what a get takes: a band, 256 for high priority, 257 for any message
abbrev pub wanted_at : ℕ → Option Wanted
wanted_at n =
    if nat_lt n 256 then Some (wanteds.Band (record { 0 = n })) else (if n == 256 then Some wanteds.High else (if n == 257 then Some wanteds.Any else None))

-- the band of a flush, or all for 257
abbrev pub band_at : ℕ → Option (Option Band)
band_at n = if nat_lt n 256 then Some (Some (record { 0 = n })) else (if n == 257 then Some None else None)

-- a mode of a head: RNORM, RMSGN, RMSGD, RPROTNORM, RPROTDAT, RPROTDIS
abbrev pub mode_at : ℕ → Option Mode
mode_at n =
    if n == 0 then Some (modes.Read ByteStream) else (if n == 1 then Some (modes.Read MessageKeep) else (if n == 2 then Some (modes.Read MessageDiscard)
    else (if n == 3 then Some (modes.Control Refuse) else (if n == 4 then Some (modes.Control Data) else (if n == 5 then Some (modes.Control Discard) else None)))))

-- what a flush empties: FLUSHR, FLUSHW, FLUSHRW
abbrev pub flush_at : ℕ → Option FlushQueues
flush_at n = if n == 1 then Some flushes.Read else (if n == 2 then Some flushes.Write else (if n == 3 then Some flushes.Both else None))

-- a signal that stops
abbrev pub stop_at : ℕ → Option StopSignal
stop_at n = if n == 26 then Some Ttin else (if n == 27 then Some Ttou else None)

-- what a turn did: nothing on an empty queue, nothing on a blocked one, or so many bytes. A turn that did nothing moved 0.
abbrev pub turn_at : ℕ → ℕ → Option Turn
turn_at kind moved =
    if kind == 0 then (if moved == 0 then Some turns.Idle else None)
    else (if kind == 1 then (if moved == 0 then Some turns.Blocked else None)
    else (if kind == 2 then Some (turns.Moved moved) else None))

-- the parts of a message
pub record Parts : Type 0 where
  pub control : Option (List ℕ)
  pub body : Option (List ℕ)

-- Which parts there are: none, a control part, a data part, both. The control part has so many bytes, and stands in front of the data part.
abbrev pub parts_at : ℕ → ℕ → List ℕ → Option Parts
parts_at there control bytes =
    if there == 0 then Some (record { control = None; body = None })
    else (if there == 1 then Some (record { control = Some bytes; body = None })
    else (if there == 2 then Some (record { control = None; body = Some bytes })
    else (if there == 3 then (if nat_le control (length bytes) then Some (record { control = Some (take control bytes); body = Some (drop control bytes) }) else None)
    else None)))

-- the direction of what a side writes
abbrev pub direction_at : ℕ → Option Dir
direction_at n = option_map (λ side. direction_from side) (side_at n)
