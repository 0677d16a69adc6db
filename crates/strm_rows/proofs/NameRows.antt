-- What the definitions of names and of refusals' numbers compute, case by case.
use Rattle.strm_rows.proofs.Prelude.{◌≡◌, true, false, List, [], ◌∷◌, map, refl, replicate, filter, None, Some, Side, Master, Slave, Way, Up, Down}
use Rattle.strm_rows.proofs.Prelude.{Driver, QueueName, MasterToSlave, SlaveToMaster, Never, Open, Closed, Einval, Eagain, Enxio, Ebadmsg}
use Rattle.strm_rows.proofs.Prelude.{Enosr, Erange, JournalFull, NoMinor, NoMemory, StillShared, Eio, number_of, driver_of, head_of}
use Rattle.strm_types.specs.declared.names.ModuleName.TheVariants as names
use Rattle.strm_types.specs.declared.names.Place.TheVariants as places
use Rattle.strm_types.specs.declared.names.Place.{Place}
use Rattle.strm_types.specs.declared.names.Place.TheVariants.{Head}
use Rattle.strm_types.specs.Names.{other, is_master, direction_from, side_from, is_open, is_never, has_service, direction_of, is_enabled, enable, enable_if, enable_some, have_queues, same_module, without, times}

pub refusals-have-numbers : map number_of (Einval ∷ Eagain ∷ Enxio ∷ Ebadmsg ∷ Enosr ∷ Erange ∷ JournalFull ∷ NoMinor ∷ NoMemory ∷ StillShared ∷ Eio ∷ []) ≡ 1 ∷ 2 ∷ 3 ∷ 4 ∷ 5 ∷ 6 ∷ 7 ∷ 8 ∷ 9 ∷ 10 ∷ 11 ∷ []
refusals-have-numbers = refl

abbrev named : Side → Place → Way → QueueName
named side place way = record { side = side; place = place; way = way }

-- the six names of a side, and all twelve
abbrev names_of : Side → List QueueName
names_of side = named side Head Up ∷ named side Head Down ∷ named side (places.Module names.Ldterm) Up ∷ named side (places.Module names.Ldterm) Down ∷ named side Driver Up ∷ named side Driver Down ∷ []

abbrev all_names : List QueueName
all_names = named Master Head Up ∷ named Master Head Down ∷ named Master (places.Module names.Ldterm) Up ∷ named Master (places.Module names.Ldterm) Down ∷ named Master Driver Up ∷ named Master Driver Down ∷ names_of Slave

pub sides-and-directions : map other (Master ∷ Slave ∷ []) ≡ Slave ∷ Master ∷ []
sides-and-directions = refl

pub master-is-one : map is_master (Master ∷ Slave ∷ []) ≡ true ∷ false ∷ []
master-is-one = refl

pub directions-of-writers : map direction_from (Master ∷ Slave ∷ []) ≡ MasterToSlave ∷ SlaveToMaster ∷ []
directions-of-writers = refl

pub writers-of-directions : map side_from (MasterToSlave ∷ SlaveToMaster ∷ []) ≡ Master ∷ Slave ∷ []
writers-of-directions = refl

pub open-now : map is_open (Never ∷ Open ∷ Closed ∷ []) ≡ false ∷ true ∷ false ∷ []
open-now = refl

pub never-open : map is_never (Never ∷ Open ∷ Closed ∷ []) ≡ true ∷ false ∷ false ∷ []
never-open = refl

pub names-of-drivers-and-heads : driver_of Slave ∷ head_of Slave ∷ [] ≡ named Slave Driver Down ∷ named Slave Head Up ∷ []
names-of-drivers-and-heads = refl

-- modules of a user's own are told apart by their numbers, and have queues from 128 on
pub own-numbers : map (λ name. same_module (names.Own 7) name) (names.Own 7 ∷ names.Own 8 ∷ names.Ldterm ∷ names.Pckt ∷ [])
    ≡ true ∷ false ∷ false ∷ false ∷ []
own-numbers = refl

pub own-has-queues : map have_queues (names.Own 0 ∷ names.Own 127 ∷ names.Own 128 ∷ names.Own 255 ∷ names.Ldterm ∷ names.Ptem ∷ [])
    ≡ false ∷ false ∷ true ∷ true ∷ true ∷ false ∷ []
own-has-queues = refl

-- each name is itself alone
pub names-are-apart : map (λ name. times name all_names) all_names ≡ replicate 12 1
names-are-apart = refl

pub heads-have-no-service : filter has_service (names_of Slave) ≡ named Slave (places.Module names.Ldterm) Up ∷ named Slave (places.Module names.Ldterm) Down ∷ named Slave Driver Up ∷ named Slave Driver Down ∷ []
heads-have-no-service = refl

pub directions-of-queues : map direction_of (head_of Master ∷ driver_of Master ∷ head_of Slave ∷ driver_of Slave ∷ []) ≡ SlaveToMaster ∷ MasterToSlave ∷ MasterToSlave ∷ SlaveToMaster ∷ []
directions-of-queues = refl

-- enabling: at the end, and once
abbrev both : List QueueName
both = driver_of Slave ∷ driver_of Master ∷ []

pub enabled-behind-others : enable (driver_of Master) (driver_of Slave ∷ []) ≡ both
enabled-behind-others = refl

pub enabled-once : enable (driver_of Slave) both ≡ both
enabled-once = refl

pub enabled-or-not : map (λ name. is_enabled name both) (driver_of Master ∷ driver_of Slave ∷ head_of Master ∷ []) ≡ true ∷ true ∷ false ∷ []
enabled-or-not = refl

pub enabled-on-a-condition : enable_if true (driver_of Master) [] ∷ enable_if false (driver_of Master) [] ∷ [] ≡ (driver_of Master ∷ []) ∷ [] ∷ []
enabled-on-a-condition = refl

pub enabled-if-there : enable_some true (Some (driver_of Master)) [] ∷ enable_some false (Some (driver_of Master)) [] ∷ enable_some true None [] ∷ [] ≡ (driver_of Master ∷ []) ∷ [] ∷ [] ∷ []
enabled-if-there = refl

pub disabled-alone : without (driver_of Slave) both ≡ driver_of Master ∷ []
disabled-alone = refl
