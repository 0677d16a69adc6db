-- A pair as its callers see it, and what a call or a turn adds to it.
use Rattle.std.specs.Prelude.{◌≡◌, ◌<◌, ◌⊎◌, ℕ, true, false, zero, suc, List, [], ◌∷◌, ◌++◌, Option, None, Some, slice_get}
use Rattle.std.specs.List.{list_all}
use Rattle.strm_laws.specs.Prelude.{Config, Turn, Moved, Blocked, Idle, STOP_BLOCKS, Side, Master, Way, Up, Down, Turned, Caller, Verdict}
use Rattle.strm_laws.specs.Prelude.{QueueName, Refusal, Request, PlainEntry, is_closed, is_open, turn_blocks, plain, tallied, no_fates, Fates}
use Rattle.strm_types.specs.declared.names.ModuleName.TheVariants as names
use Rattle.strm_types.specs.declared.names.Place.TheVariants as places
use Rattle.strm_laws.specs.Behaviours.{Behaviour}
use Rattle.strm_laws.specs.StackCosts.{stands_of, stands_on}
use Rattle.strm_laws.specs.State.{State, opening, stream}
use Rattle.strm_laws.specs.Turns.{whole_turn}
use Rattle.strm_types.specs.JobControl.{judged}
use Rattle.strm_types.specs.Tables.{name_holds}
use Rattle.strm_laws.specs.Refusals.{Free, enough, blocks_asked, refused, stop_of, turn_refused}
use Rattle.strm_laws.specs.Step.{Step}
use Rattle.strm_laws.specs.Kept.{gone}

-- A pair: its plain state, the base at which its journal begins, that is a state and how many bytes had gone by each rule there, the journal,
-- the sizes that it was made with, how many blocks are free, and how many bytes have gone by each rule since it was made.
pub record PairState : Type 0 where
  pub state : State ℕ
  pub base : State ℕ
  pub base_fates : Fates
  pub past : List PlainEntry
  pub journal : List PlainEntry
  pub limits : Config
  pub free : Free
  pub fates : Fates

-- a pair as it is made
abbrev pub new_pair : Config → PairState
new_pair limits = record {
  state = opening;
  base = opening;
  base_fates = no_fates;
  past = [];
  journal = [];
  limits = limits;
  free = record { mblks = limits.mblks; dblks = limits.dblks };
  fates = no_fates;
}

-- a pair whose journal begins anew at the state that it has; all else stays
abbrev pub restarted : PairState → PairState
restarted p = record p { base = p.state; base_fates = p.fates; past = p.past ++ p.journal; journal = [] }

-- the refusal of a call on a pair, if any
abbrev pub call_refused : Behaviour → PairState → Caller → Request → Option Refusal
call_refused K p caller asked = refused K p.state p.journal p.limits (enough (blocks_asked asked) p.free) caller asked

-- the verdict on a call on a pair: it is refused, its caller is stopped, or it is carried out
abbrev pub call_verdict : Behaviour → PairState → Caller → Request → Verdict
call_verdict K p caller asked = judged (call_refused K p caller asked) (stop_of p.state caller asked)

-- the refusal of a turn of a pair's queue, if any
abbrev pub queue_refused : PairState → QueueName → Option Refusal
queue_refused p name = turn_refused p.state p.journal p.limits (enough (turn_blocks name.place) p.free) name

-- The pair took a step, and its journal has gained the entry of it. What the step let go is told by its rules. The base and the
-- sizes stay.
pub record AddsEntry (K : Behaviour) (old new : PairState) (entry : PlainEntry) : Type 0 where
  pub journal : new.journal ≡ old.journal ++ entry ∷ []
  pub step : Step K plain old.state entry new.state
  pub fates : new.fates ≡ tallied (gone K plain old.state entry) old.fates
  pub base : new.base ≡ old.base
  pub base_fates : new.base_fates ≡ old.base_fates
  pub past : new.past ≡ old.past
  pub limits : new.limits ≡ old.limits

-- the refusal of the next turn, that of the queue that was enabled first, if there is one
abbrev pub refused_of : PairState → Option QueueName → Option Refusal
refused_of p None = None
refused_of p (Some name) = queue_refused p name

abbrev pub next_refused : PairState → Option Refusal
next_refused p = refused_of p (slice_get p.state.enabled 0)

abbrev pub IsOpenAhead : {C : Type 0} → Way → Side → State C → Type 0
IsOpenAhead Up side s = is_open (stream side s).opened ≡ true
IsOpenAhead Down side s = is_closed (stream Master s).opened ≡ false

-- What a module sends on as M_DATA comes to stand on a queue ahead with its blocks: up the stream of a side that is open, and down while the master
-- isn't closed (streamio(7I), ptm(7D)), where no module of a user's own stands on the side. Else the head or the driver there frees it, or such a module.
pub record IsKeptAhead {C : Type 0} (way : Way) (side : Side) (s : State C) : Type 0 where
  pub opened : IsOpenAhead way side s
  pub kept : list_all name_holds (stands_on side (stands_of s)) ≡ true

-- A turn that moved so many bytes, of a pair in this state, stopped within its message, and so many blocks are free behind it: that is one of
-- ldterm's, which treated a byte at least, and where what it sends is kept ahead fewer than `STOP_BLOCKS` blocks of some kind are free.
pub record StopsWithin (s : State ℕ) (free : Free) (name : QueueName) (bytes : ℕ) : Type 0 where
  pub place : name.place ≡ places.Module names.Ldterm
  pub some : 0 < bytes
  pub few : IsKeptAhead name.way name.side s → enough STOP_BLOCKS free ≡ false

-- A turn that moved something treated the first message of its queue whole, or stopped within it.
abbrev pub MovesOn : State ℕ → Free → QueueName → Turn → Type 0
MovesOn s free name (Moved bytes) = (Moved bytes ≡ whole_turn name s) ⊎ StopsWithin s free name bytes
MovesOn s free name Blocked = Unit {0}
MovesOn s free name Idle = Unit {0}

abbrev pub Stops : (old new : PairState) → QueueName → Turn → Type 0
Stops old new name turn = MovesOn old.state new.free name turn

-- So many turns were made, each of the queue that was enabled first, and nothing else (STREAMS Programming Guide, "Service Procedures": the
-- scheduler calls those of enabled queues in the order in which they were enabled).
pub record TurnOfFirst (K : Behaviour) (old new : PairState) : Type 0 where
  pub name : QueueName
  pub turn : Turn
  pub first : slice_get old.state.enabled 0 ≡ Some name
  pub adds : AddsEntry K old new (Turned name turn)
  pub stops : Stops old new name turn

abbrev pub RanTurns : Behaviour → ℕ → PairState → PairState → Type 0
RanTurns K zero old new = new ≡ old
RanTurns K (suc n) old new = (mid : PairState) × (RanTurns K n old mid × TurnOfFirst K mid new)
