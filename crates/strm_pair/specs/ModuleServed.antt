-- What the calls of a turn of a module's queue did to the store, the streams and what has gone.
use Rattle.std.specs.Prelude.{ℕ, ◌≡◌, ◌≤◌, ◌<◌, ◌+◌, ◌-◌, ◌*◌, ◌==◌, ◌%◌, ◌^◌, Bool, true, false, not, List, length, Option, HoldsAt}
use Rattle.std.specs.Bool.{OnTrue}
use Rattle.strm_pair.specs.Prelude.{Moved, Book, Both, STOP_BLOCKS, QueueName, Fates, Spot, plain, Fate, Took, tallied, made_of, at_place}
use Rattle.strm_pair.specs.Prelude.{module_turn_ended, moved_on, IsKeptAhead, module_acted, spare, State, stream, Begins, Ends, bytes_left, most_made}
use Rattle.strm_pair.specs.Prelude.{asks_on, called, discipline_of, led, module_at, treated, StoreValue, times_in, Sent, Served, Handles, HasRoom}
use Rattle.strm_pair.specs.Prelude.{OnlyOwn, SamePool, AreChains, parcels_in, sent_of, times_sent, later_cost, least_free, stop_at, Behaviour}
use Rattle.strm_types.specs.Books.{with_made}
use Rattle.strm_frame.specs.Serves.{stop_of}
use Rattle.strm_pair.specs.AnyModules.{turn_cost}
use Rattle.strm_pair.specs.declared.service_calls.Call.{Call}
use Rattle.strm_pair.specs.declared.streams.Streams.{Streams}
use Rattle.strm_pair.specs.Enabling.{AreFewEnabled}
use Rattle.strm_pair.specs.Pairs.{state_in, AreBeside, kept_by}
use Rattle.strm_pair.specs.Stacks.{modules_in, IsStackHeld, stack_owns, stack_keeps, Stack}

-- at how many bytes a call stopped for want of blocks, where it did
abbrev pub stop_in : Call → Option ℕ
stop_in call = stop_at call.stopped call.bytes

-- how many numbers lie between two, modulo 2^64
abbrev pub between : ℕ → ℕ → ℕ
between before now = (now + (2 ^ 64 - before)) % 2 ^ 64

-- how many blocks of each kind a call of the turn may count on, and one more of them
abbrev pub call_cost : Spot → Bool → State ℕ → ℕ
call_cost here again s = at_place (turn_cost here again) 0 here.at (stream here.side s).modules

abbrev pub next_cost : Spot → State ℕ → ℕ
next_cost here s = call_cost here true s

-- where more is made, it fits a book
abbrev pub BookTakes : ℕ → ℕ → Type 0
BookTakes made more = 0 < more → made + more < 2 ^ 64

-- the books with so many more bytes made in each direction
abbrev pub with_more : ℕ → ℕ → Both Book → Both Book
with_more m n books = record { master = with_made m books.master; slave = with_made n books.slave }

-- how much of the books a call takes at most that treats so many bytes: for what it makes, and for what becomes packets of what it sends
abbrev pub call_units : ℕ → ℕ
call_units bytes = 3 * bytes + 33

-- that much is left, however far a call goes
abbrev pub MayBook : Spot → Bool → State ℕ → Type 0
MayBook here again s = call_units (bytes_left here.way again (discipline_of (module_at here s))) ≤ spare s

-- all that is in hand is kept by the stacks
abbrev pub IsKeptAll : StoreValue → Streams → Type 0
IsKeptAll s p = (i : ℕ) → times_in i s.hand ≡ kept_by p i

-- A call of the turn may be made at a place: a module stands there and is at that call, the streams fit the store, which has blocks enough,
-- nothing else is in hand, and enabled queues are there.
pub record MayCall (s : StoreValue) (p : Streams) (here : Spot) (again : Bool) : Type 0 where
  pub inside : 0 < here.at
  pub within : here.at ≤ length (stream here.side (state_in s p)).modules
  pub begins : Begins here.way again (discipline_of (module_at here (state_in s p)))
  pub beside : AreBeside s p
  pub hand : IsKeptAll s p
  pub room : HasRoom s (call_cost here again (state_in s p))
  pub enabled : AreFewEnabled (state_in s p)

-- what the module at a place does in a call
abbrev pub acts_in : Behaviour → Spot → Bool → Call → State ℕ → Took ℕ (State ℕ)
acts_in K here again call s = module_acted here (called here K again (stop_in call) (stream here.side s).modules) s

-- what a call tells of itself, which began with this state
pub record TellsAs (K : Behaviour) (here : Spot) (again : Bool) (call : Call) (s : State ℕ) : Type 0 where
  pub bytes : call.bytes ≡ treated here K again (stop_in call) (stream here.side s).modules
  pub asks : call.again ≡ asks_on here K again (stop_in call) (stream here.side s).modules
  pub ends : OnTrue call.stopped (Ends here.way again (discipline_of (module_at here s)) call.bytes)
  pub over : OnTrue call.stopped (call.again ≡ false)
  pub made : made_of (called here K again (stop_in call) (stream here.side s).modules).gone ≤ most_made call.bytes

-- A stack of modules served a call at a place.
pub record StackServes (K : Behaviour) (old new : StoreValue) (x y : Stack) (here : Spot) (again : Bool) (served : Served)
    (told told' : Fates) : Type 0 where
  pub state : modules_in new y ≡ (called here K again (stop_of served) (modules_in old x)).state
  pub notes : served.acts.notes.items ≡ (called here K again (stop_of served) (modules_in old x)).notes
  pub sent : parcels_in new (sent_of served.acts.sent) ≡ (called here K again (stop_of served) (modules_in old x)).sent
  pub tells : told' ≡ tallied (called here K again (stop_of served) (modules_in old x)).gone told
  pub bytes : served.bytes ≡ treated here K again (stop_of served) (modules_in old x)
  pub asks : served.again ≡ asks_on here K again (stop_of served) (modules_in old x)
  pub over : OnTrue served.stopped (served.again ≡ false)
  pub few : OnTrue served.stopped (least_free new < STOP_BLOCKS)
  pub some : OnTrue served.stopped (HasRoom old STOP_BLOCKS → 0 < served.bytes)
  pub ends : OnTrue served.stopped (HoldsAt (λ p. Ends here.way again (discipline_of p) served.bytes) (modules_in old x) (here.at - 1))
  pub made : made_of (called here K again (stop_of served) (modules_in old x)).gone ≤ most_made served.bytes
  pub held : IsStackHeld new y
  pub own : OnlyOwn old new (stack_owns x) (stack_owns y)
  pub chains : AreChains new (sent_of served.acts.sent)
  pub hands : Handles old new (λ _. 0) (stack_keeps x) (stack_keeps y) (λ i. times_sent i (sent_of served.acts.sent))
  pub room : HasRoom new (later_cost served.again (at_place (turn_cost here true) 0 here.at (modules_in new y)) (parcels_in new (sent_of served.acts.sent)))
  pub pool : SamePool old new

-- what a served call tells of itself
abbrev pub call_of : Served → Call
call_of served = record { bytes = served.bytes; stopped = served.stopped; again = served.again }

-- The module at a place did what a call says. What it sent is in hand, beside what the stacks keep, and there are blocks enough for that and
-- for one more call, where it asks for one.
pub record ActsAs (K : Behaviour) (old new : StoreValue) (p q : Streams) (here : Spot) (again : Bool) (call : Call) (sent_on : List Sent)
    (told told' : Fates) : Type 0 where
  pub state : state_in new q ≡ (acts_in K here again call (state_in old p)).state
  pub sent : parcels_in new sent_on ≡ (acts_in K here again call (state_in old p)).sent
  pub tells : told' ≡ tallied (acts_in K here again call (state_in old p)).gone told
  pub itself : TellsAs K here again call (state_in old p)
  pub few : OnTrue call.stopped (least_free new < STOP_BLOCKS)
  pub some : OnTrue call.stopped (HasRoom old STOP_BLOCKS → 0 < call.bytes)
  pub beside : AreBeside new q
  pub chains : AreChains new sent_on
  pub hands : Handles old new (λ _. 0) (kept_by p) (kept_by q) (λ i. times_sent i sent_on)
  pub room : HasRoom new (later_cost call.again (next_cost here (state_in new q)) (parcels_in new sent_on))
  pub pool : SamePool old new
  pub enabled : AreFewEnabled (state_in new q)

-- A call that stopped left few blocks free, where what it sent is kept ahead.
abbrev pub LeavesFew : Spot → Bool → Call → State ℕ → StoreValue → Type 0
LeavesFew here again call s new =
    OnTrue call.stopped (call.bytes < bytes_left here.way again (discipline_of (module_at here s)) → IsKeptAhead here.way here.side s → least_free new < STOP_BLOCKS)

-- A call did what it says, and what it sent is delivered.
pub record CallsAs (K : Behaviour) (old new : StoreValue) (p q : Streams) (here : Spot) (again : Bool) (call : Call)
    (told told' : Fates) : Type 0 where
  pub state : state_in new q ≡ (led K here again (stop_in call) (state_in old p)).state
  pub tells : told' ≡ tallied (led K here again (stop_in call) (state_in old p)).gone told
  pub itself : TellsAs K here again call (state_in old p)
  pub few : LeavesFew here again call (state_in old p) new
  pub some : OnTrue call.stopped (HasRoom old STOP_BLOCKS → 0 < call.bytes)
  pub beside : AreBeside new q
  pub hand : IsKeptAll new q
  pub room : OnTrue call.again (HasRoom new (next_cost here (state_in new q)))
  pub left : spare (state_in old p) ≤ spare (state_in new q) + call_units call.bytes
  pub pool : SamePool old new
  pub enabled : AreFewEnabled (state_in new q)

-- Calls that treated fewer bytes of a turn than its message has, as it began, stopped where few blocks are free, if what they sent is kept ahead.
abbrev pub StopsFew : Spot → ℕ → State ℕ → StoreValue → Type 0
StopsFew here bytes old new = bytes < bytes_left here.way false (discipline_of (module_at here old)) → IsKeptAhead here.way here.side old → least_free new < STOP_BLOCKS

-- Calls treated so many bytes of a turn, one at least where the message has any, and it would end here. So much of the books was taken at most.
pub record TreatsAs (K : Behaviour) (here : Spot) (bytes : ℕ) (old new : State ℕ) (told told' : Fates) : Type 0 where
  pub gone : List (Fate ℕ)
  pub within : bytes ≤ bytes_left here.way false (discipline_of (module_at here old))
  pub some : bytes ≡ 0 → bytes_left here.way false (discipline_of (module_at here old)) ≡ 0
  pub stands : here.at - 1 < length (stream here.side new).modules
  pub moves : (name : QueueName) → moved_on K plain here name bytes old
      ≡ record { turn = Moved bytes; state = module_turn_ended name here (not (bytes == 0)) new; gone = gone }
  pub tells : told' ≡ tallied gone told
  pub left : spare old ≤ spare new + (102 * bytes + 99)
