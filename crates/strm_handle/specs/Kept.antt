-- A pair as a handle keeps it: with what its maker chose, whether a full journal begins anew, and how many blocks are in reserve.
use Rattle.std.specs.Prelude.{ℕ, ◌≡◌, ◌<◌, ◌≤◌, ◌+◌, ◌&&◌, ◌||◌, Bool, true, false, not, nat_lt, nat_le, if◌then◌else◌, List, [], length, Option}
use Rattle.std.specs.Prelude.{None, Some, Result, Ok, Err}
use Rattle.strm_types.specs.declared.events.Event.TheVariants.{Write, Put, Ioctl}
use Rattle.strm_types.specs.declared.limits.Config.{Config}
use Rattle.strm_types.specs.declared.names.ModuleName.TheVariants as names
use Rattle.strm_types.specs.declared.names.Place.{Place}
use Rattle.strm_types.specs.declared.names.Place.TheVariants.{Head, Module, Driver}
use Rattle.strm_types.specs.declared.names.Side.{Side}
use Rattle.strm_types.specs.declared.names.Way.{Way}
use Rattle.strm_types.specs.declared.names.Way.TheVariants.{Up, Down}
use Rattle.strm_types.specs.declared.refusals.Refusal.{Refusal}
use Rattle.strm_types.specs.declared.refusals.Refusal.TheVariants.{JournalFull}
use Rattle.strm_types.specs.Events.{Request}
use Rattle.strm_types.specs.Names.{other}
use Rattle.strm_laws.specs.Pair.{PairState, restarted}
use Rattle.strm_laws.specs.Refusals.{enough}
use Rattle.strm_laws.specs.State.{State}
use Rattle.strm_laws.specs.Within.{AreWithin}
use Rattle.strm_pair.specs.Shows.{messages_at}
use Rattle.strm_handle.specs.declared.choices.Choices.{Choices}

pub record KeptPair : Type 0 where
  pub pair : PairState
  pub anew : Bool
  pub reserve : ℕ

-- what is chosen stays
pub record SameChoices (old new : KeptPair) : Type 0 where
  pub anew : new.anew ≡ old.anew
  pub reserve : new.reserve ≡ old.reserve

-- An empty journal of these sizes takes any call: 8192 bytes are two parts of the longest answer.
pub record TakesAny (limits : Config) : Type 0 where
  pub entries : 0 < limits.journal_events
  pub bytes : 8192 ≤ limits.journal_bytes

pub record IsKept (k : KeptPair) : Type 0 where
  pub within : AreWithin k.pair.state
  pub anew : k.anew ≡ true → TakesAny k.pair.limits

-- in memory: between calls no byte of an answer is there
pub record IsHeld (k : KeptPair) (bytes : List ℕ) : Type 0 where
  pub kept : IsKept k
  pub answer : bytes ≡ []

-- What is chosen for a pair that is made: 1 to 65536 blocks, of which no more are in reserve; a journal that begins anew takes any call.
abbrev pub takes_any : Choices → Bool
takes_any c = nat_lt 0 c.entries && nat_le 8192 c.bytes

abbrev pub are_fit : Choices → Bool
are_fit c = (nat_lt 0 c.blocks && nat_le c.blocks 65536) && (nat_le c.reserve c.blocks && (not c.anew || takes_any c))

abbrev pub sizes_of : Choices → Config
sizes_of c = record { mblks = c.blocks; dblks = c.blocks; journal_events = c.entries; journal_bytes = c.bytes }

-- where nothing is chosen, a full journal stays, and no block is in reserve
abbrev pub plain_choices : (blocks entries bytes : ℕ) → Choices
plain_choices blocks entries bytes = record { blocks = blocks; entries = entries; bytes = bytes; reserve = 0; anew = false }

abbrev pub kept_by : Choices → PairState → KeptPair
kept_by c p = record { pair = p; anew = c.anew; reserve = c.reserve }

-- A journal that begins anew: just where a call or a turn would be refused as it is full, and for nothing before that, it is made at the pair begun anew.
abbrev pub is_full : Option Refusal → Bool
is_full (Some JournalFull) = true
is_full _ = false

abbrev pub refusal_in : {A : Type 0} → Result A Refusal → Option Refusal
refusal_in (Ok a) = None
refusal_in (Err refusal) = Some refusal

abbrev pub begun : Bool → Option Refusal → PairState → PairState
begun anew refusal p = if is_full refusal && anew then restarted p else p

abbrev pub made_at : (KeptPair → Option Refusal) → KeptPair → KeptPair
made_at refusal k = record k { pair = begun k.anew (refusal k) k.pair }

-- The reserve: a call that sends messages is held back where fewer blocks are free than it asks for and the reserve, and 64 messages that its side
-- sent, or that came of them, wait on a queue. So neither side takes the reserve from the other.
abbrev pub is_long : Side → Place → Way → State ℕ → Bool
is_long side place way s = nat_le 64 (length (messages_at (record { side = side; place = place; way = way }) s))

abbrev pub has_many : Side → State ℕ → Bool
has_many side s =
    is_long (other side) Head Up s
    || (is_long (other side) (Module names.Ldterm) Up s || (is_long side Driver Down s || is_long side (Module names.Ldterm) Down s))

abbrev pub is_held_back : Side → ℕ → KeptPair → Bool
is_held_back side blocks k = nat_lt 0 k.reserve && (not (enough (blocks + k.reserve) k.pair.free) && has_many side k.pair.state)

abbrev pub sends : Request → Bool
sends (Write bytes) = true
sends (Put prio control body) = true
sends (Ioctl command body) = true
sends _ = false
