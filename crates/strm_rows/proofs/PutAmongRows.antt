-- What puts at the modules of a pair's streams compute, and the nearest earlier queues there, as worked out by hand.
use Rattle.strm_rows.proofs.Prelude.{ℕ, ◌≡◌, ◌∷◌, List, [], map, refl, true, false, None, Some, MasterToSlave, SlaveToMaster, Open, QueueName, Side}
use Rattle.strm_rows.proofs.Prelude.{Master, Slave, Way, Up, Down, Flushed, Spot, plain, new_book, Fate, Goes, Parcel, Took, is_data_kind, no_own}
use Rattle.strm_rows.proofs.Prelude.{flush_message, Message, band_of, cells_of, is_high_priority, rank_of, size_of, driver_of, put_in, Flow, Standing}
use Rattle.strm_rows.proofs.Prelude.{ldterm_stands, State, Stream, flow, head_with, header, ordinary, queue, without_parts, fresh}
use Rattle.strm_types.specs.declared.names.ModuleName.TheVariants as names
use Rattle.strm_types.specs.declared.kinds.MsgKind.TheVariants as kinds
use Rattle.strm_types.specs.declared.names.Place.TheVariants as places
use Rattle.strm_laws.specs.Earlier.{before_at, before_by, before_driver, before_head, driver_place, modules_on}
use Rattle.strm_laws.specs.Puts.{across_of}

abbrev pub spot : Side → ℕ → Way → Spot
spot side at way = record { side = side; at = at; way = way }

abbrev pub parcel : Side → ℕ → Way → Message ℕ → Parcel ℕ
parcel side at way m = record { to = spot side at way; message = m }

-- a module with these messages on its read queue and on its write queue, whose bands have these marks
abbrev pub holding : List Flow → List (Message ℕ) → List (Message ℕ) → Standing ℕ
holding flows above below = ldterm_stands (record fresh { read_queue = queue above flows; write_queue = queue below flows })

abbrev pub with_these : List (Message ℕ) → List (Message ℕ) → Standing ℕ
with_these above below = holding [] above below

abbrev pub bare : Standing ℕ
bare = with_these [] []

abbrev pub end : List (Message ℕ) → List (Standing ℕ) → List (Message ℕ) → Stream ℕ
end head modules driver = record { opened = Open; head = head_with (queue head []) false; modules = modules; driver = record { queue = queue driver [] } }

abbrev pub pair : Stream ℕ → Stream ℕ → List QueueName → State ℕ
pair master slave enabled = record {
  ends = record { master = master; slave = slave };
  locked = false;
  enabled = enabled;
  next_ioctl = 1;
  books = record { master = new_book; slave = new_book };
}

-- the slave's stream has these modules, and the master's none
abbrev pub with_slave : List (Standing ℕ) → State ℕ
with_slave modules = pair (end [] [] []) (end [] modules []) []

abbrev pub one : ℕ → List (Message ℕ)
one byte = ordinary (byte ∷ []) ∷ []

abbrev pub ldterm : Side → Way → QueueName
ldterm side way = record { side = side; place = places.Module names.Ldterm; way = way }

-- no module, one and two of them
abbrev stacks : List (State ℕ)
stacks = with_slave [] ∷ with_slave (bare ∷ []) ∷ with_slave (bare ∷ bare ∷ []) ∷ []

-- how many have a place, and the place of the driver behind them: three at most count
pub modules-have-places : map (λ ms. modules_on Slave (with_slave ms)) ([] ∷ (bare ∷ []) ∷ (bare ∷ bare ∷ []) ∷ (bare ∷ bare ∷ bare ∷ bare ∷ []) ∷ []) ≡ 0 ∷ 1 ∷ 2 ∷ 3 ∷ []
modules-have-places = refl

pub driver-is-behind : map (λ s. driver_place Slave s) stacks ≡ 1 ∷ 2 ∷ 3 ∷ []
driver-is-behind = refl

pub other-side-has-its-own : map (λ s. driver_place Master s) stacks ≡ 1 ∷ 1 ∷ 1 ∷ []
other-side-has-its-own = refl

-- before the head: the other side's driver, or the read queue of a module
pub before-a-head : map (λ s. before_head Slave s) stacks ≡ Some (driver_of Master) ∷ Some (ldterm Slave Up) ∷ Some (ldterm Slave Up) ∷ []
before-a-head = refl

-- before the driver: nothing, or the write queue of a module
pub before-a-driver : map (λ s. before_driver Slave s) stacks ≡ None ∷ Some (ldterm Slave Down) ∷ Some (ldterm Slave Down) ∷ []
before-a-driver = refl

-- before a module of two: on the way up the lower one, and before that the other side's driver; on the way down nothing, and the upper one
pub before-modules-upward : map (λ at. before_at Slave Up at (with_slave (bare ∷ bare ∷ []))) (1 ∷ 2 ∷ 3 ∷ []) ≡ Some (ldterm Slave Up) ∷ Some (driver_of Master) ∷ None ∷ []
before-modules-upward = refl

pub before-modules-downward : map (λ at. before_at Slave Down at (with_slave (bare ∷ bare ∷ []))) (0 ∷ 1 ∷ 2 ∷ 3 ∷ []) ≡ None ∷ None ∷ Some (ldterm Slave Down) ∷ Some (ldterm Slave Down) ∷ []
before-modules-downward = refl

-- a fourth has no place, and so the driver isn't before it
pub none-before-the-fourth : before_at Slave Up 4 (with_slave (bare ∷ bare ∷ bare ∷ bare ∷ [])) ≡ None
none-before-the-fourth = refl

-- modules without queues: what is before them is before all modules
pub modules-without-queues : map (λ way. before_by Slave way 0 (None ∷ None ∷ []) None) (Up ∷ Down ∷ []) ≡ Some (driver_of Master) ∷ None ∷ []
modules-without-queues = refl

pub queue-behind-one-without : map (λ way. before_by Slave way 0 (None ∷ Some (places.Module names.Ldterm) ∷ []) (Some 2)) (Up ∷ Down ∷ []) ≡ Some (ldterm Slave Up) ∷ Some (ldterm Slave Down) ∷ []
queue-behind-one-without = refl

-- puts at the slave's modules

abbrev took : State ℕ → List (Parcel ℕ) → List (Fate ℕ) → Took ℕ (State ℕ)
took s sent gone = record { state = s; sent = sent; gone = gone }

abbrev with_enabled : List QueueName → List (Standing ℕ) → State ℕ
with_enabled names modules = record (with_slave modules) { enabled = names }

-- M_DATA waits on the queue of its way at the module of its place, which is enabled
pub data-goes-down-to-the-first : put_in no_own plain (spot Slave 1 Down) (ordinary (7 ∷ [])) (with_slave (bare ∷ bare ∷ []))
    ≡ took (with_enabled (ldterm Slave Down ∷ []) (with_these [] (one 7) ∷ bare ∷ [])) [] []
unfolding rank_of is_high_priority band_of
data-goes-down-to-the-first = refl

pub data-goes-up-to-the-lowest : map (λ ms. put_in no_own plain (spot Slave 2 Up) (ordinary (7 ∷ [])) (with_slave ms)) ((bare ∷ bare ∷ []) ∷ (bare ∷ []) ∷ [])
    ≡ took (with_enabled (ldterm Slave Up ∷ []) (bare ∷ with_these (one 7) [] ∷ [])) [] []
    ∷ took (with_slave (bare ∷ [])) (parcel Slave 1 Up (ordinary (7 ∷ [])) ∷ []) [] ∷ []
unfolding rank_of is_high_priority band_of
data-goes-up-to-the-lowest = refl

-- behind the modules, on the way up, it goes on to the lowest one; on the way down the driver takes it
pub passed-to-the-lowest : map (λ s. (put_in no_own plain (spot Slave 4 Up) (ordinary (7 ∷ [])) s).sent) stacks
    ≡ (parcel Slave 0 Up (ordinary (7 ∷ [])) ∷ []) ∷ (parcel Slave 1 Up (ordinary (7 ∷ [])) ∷ []) ∷ (parcel Slave 2 Up (ordinary (7 ∷ [])) ∷ []) ∷ []
passed-to-the-lowest = refl

pub driver-takes-behind-them : put_in no_own plain (spot Slave 2 Down) (ordinary (7 ∷ [])) (with_slave (bare ∷ []))
    ≡ took (pair (end [] [] []) (end [] (bare ∷ []) (one 7)) (driver_of Slave ∷ [])) [] []
unfolding rank_of is_high_priority band_of
driver-takes-behind-them = refl

-- M_IOCTL passes a module at once, both ways
abbrev asks : Message ℕ
asks = without_parts kinds.Ioctl (header 5 7 0)

pub ioctl-passes : map (λ to. put_in no_own plain to asks (with_slave (bare ∷ bare ∷ []))) (spot Slave 1 Down ∷ spot Slave 2 Down ∷ spot Slave 2 Up ∷ spot Slave 1 Up ∷ [])
    ≡ took (with_slave (bare ∷ bare ∷ [])) (parcel Slave 2 Down asks ∷ []) [] ∷ took (with_slave (bare ∷ bare ∷ [])) (parcel Slave 3 Down asks ∷ []) []
    ∷ took (with_slave (bare ∷ bare ∷ [])) (parcel Slave 1 Up asks ∷ []) [] ∷ took (with_slave (bare ∷ bare ∷ [])) (parcel Slave 0 Up asks ∷ []) [] ∷ []
ioctl-passes = refl

-- the driver answers from its place behind them
pub driver-answers-to-the-lowest : map (λ (t : Took ℕ (State ℕ)). map (λ (p : Parcel ℕ). p.to) t.sent) (put_in no_own plain (spot Slave 1 Down) asks (with_slave []) ∷ put_in no_own plain (spot Slave 3 Down) asks (with_slave (bare ∷ bare ∷ [])) ∷ [])
    ≡ (spot Slave 0 Up ∷ []) ∷ (spot Slave 2 Up ∷ []) ∷ []
driver-answers-to-the-lowest = refl

-- M_FLUSH: what waits at the module of the place goes, and the message goes on
pub flush-at-the-second : put_in no_own plain (spot Slave 2 Up) (flush_message (1 ∷ [])) (with_slave (with_these (one 1) (one 2) ∷ with_these (one 3) (one 4) ∷ []))
    ≡ took (with_slave (with_these (one 1) (one 2) ∷ with_these [] (one 4) ∷ [])) (parcel Slave 1 Up (flush_message (1 ∷ [])) ∷ [])
    (Goes MasterToSlave Flushed (3 ∷ []) ∷ [])
unfolding is_data_kind cells_of size_of
flush-at-the-second = refl

pub flush-at-the-first : put_in no_own plain (spot Slave 1 Down) (flush_message (2 ∷ [])) (with_slave (with_these (one 1) (one 2) ∷ with_these (one 3) (one 4) ∷ []))
    ≡ took (with_slave (with_these (one 1) [] ∷ with_these (one 3) (one 4) ∷ [])) (parcel Slave 2 Down (flush_message (2 ∷ [])) ∷ [])
    (Goes SlaveToMaster Flushed (2 ∷ []) ∷ [])
unfolding is_data_kind cells_of size_of
flush-at-the-first = refl

-- a writer that waited there is let go: at the upper read queue the lower module's, at the lower one the other side's driver
abbrev waited_for : Standing ℕ
waited_for = holding (flow 9 1 true ∷ []) (one 1) []

pub room-enables-the-one-before : map (λ (p : Parcel ℕ). (put_in no_own plain p.to p.message (with_slave (waited_for ∷ waited_for ∷ []))).state.enabled) (parcel Slave 1 Up (flush_message (1 ∷ [])) ∷ parcel Slave 2 Up (flush_message (1 ∷ [])) ∷ [])
    ≡ (ldterm Slave Up ∷ []) ∷ (driver_of Master ∷ []) ∷ []
unfolding is_data_kind cells_of size_of band_of is_high_priority
room-enables-the-one-before = refl

-- what a driver is told of the other side
pub drivers-are-told : map (λ side. (across_of side (with_slave (bare ∷ bare ∷ []))).bottom) (Master ∷ Slave ∷ []) ≡ 2 ∷ 0 ∷ []
drivers-are-told = refl
