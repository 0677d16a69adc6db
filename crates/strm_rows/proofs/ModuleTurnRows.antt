-- Turns of modules' queues, as worked out by hand from the STREAMS Programming Guide, ldterm(7M) and termio(7I).
use Rattle.strm_rows.proofs.Prelude.{ℕ, ◌≡◌, Bool, true, false, List, [], ◌∷◌, ◌++◌, map, refl, None, Some, Turn, Moved, Blocked, Idle, Turned, Open}
use Rattle.strm_rows.proofs.Prelude.{Driver, QueueName, Master, Slave, Up, Down, new_book, plain, carried, Message, band_of, cells_of, no_own}
use Rattle.strm_rows.proofs.Prelude.{data_message, is_high_priority, rank_of, size_of, driver_of, Flow, Queue, Standing, ldterm_stands, State, Stream}
use Rattle.strm_rows.proofs.Prelude.{new_stream, TurnOutcome, turned, whole_turn, head_with, ordinary, fresh, module_named}
use Rattle.strm_types.specs.declared.names.Place.TheVariants as places
use Rattle.strm_types.specs.declared.names.ModuleName.TheVariants as names
use Rattle.strm_laws.specs.ModuleTurns.{calls, module_turned, place_named, whole_module}
use Rattle.strm_laws.specs.Stacked.{module_queues}
use Rattle.strm_laws.specs.Step.{IsTurn, after}
use Rattle.strm_laws.specs.Past.{may_pass}

-- a queue of one band that is full from three bytes on, whose last turn left messages there
abbrev busy : List (Message ℕ) → Bool → Queue ℕ
busy messages waits = record { messages = messages; flows = record { high = 3; low = 1; want_write = waits } ∷ []; want_read = false; no_enable = false }

abbrev module_with : Queue ℕ → Queue ℕ → Standing ℕ
module_with above below = ldterm_stands (record fresh { read_queue = above; write_queue = below })

-- a pair whose slave's stream has these modules between a head and a driver
abbrev stacked : Queue ℕ → List (Standing ℕ) → Queue ℕ → Stream ℕ
stacked above modules below = record { opened = Open; head = head_with above false; modules = modules; driver = record { queue = below } }

abbrev pair : Stream ℕ → State ℕ
pair on = record { ends = record { master = record new_stream { opened = Open }; slave = on }; locked = false; enabled = []; next_ioctl = 1; books = record { master = new_book; slave = new_book } }

abbrev reading : QueueName
reading = record { side = Slave; place = places.Module names.Ldterm; way = Up }

abbrev writing : QueueName
writing = record { side = Slave; place = places.Module names.Ldterm; way = Down }

-- what is seen behind a turn: the answer, the cells on the head's queue, on the queues of the module on top and on the driver's, which of
-- these have a writer that waits, and which want to be read
record Seen : Type 0 where
  turn : Turn
  cells : List (List (List ℕ))
  waits : List (List Bool)
  wants : List Bool
  enabled : List QueueName
  made : ℕ

abbrev queues_on : Stream ℕ → List (Queue ℕ)
queues_on on = on.head.queue ∷ of_top on.modules
  where
    of_top : List (Standing ℕ) → List (Queue ℕ)
    of_top [] = on.driver.queue ∷ []
    of_top (p ∷ ps) = module_queues p ++ on.driver.queue ∷ []

abbrev seen : TurnOutcome ℕ → Seen
seen t = record {
  turn = t.turn;
  cells = map (λ (q : Queue ℕ). map cells_of q.messages) (queues_on t.state.ends.slave);
  waits = map (λ (q : Queue ℕ). map (λ (flow : Flow). flow.want_write) q.flows) (queues_on t.state.ends.slave);
  wants = map (λ (q : Queue ℕ). q.want_read) (queues_on t.state.ends.slave);
  enabled = t.state.enabled;
  made = t.state.books.slave.made;
}

-- without a module of the name nothing is done
pub no-module : module_turned no_own plain writing (Moved 2) (pair (stacked (busy [] false) [] (busy [] false)))
    ≡ record { turn = Idle; state = pair (stacked (busy [] false) [] (busy [] false)); gone = [] }
no-module = refl

-- an empty queue wants to be read
pub empty-queue : seen (module_turned no_own plain writing (Moved 0) (pair (stacked (busy [] false) (module_with (busy [] false) (busy [] false) ∷ []) (busy [] false))))
    ≡ record { turn = Idle; cells = [] ∷ [] ∷ [] ∷ [] ∷ []; waits = (false ∷ []) ∷ (false ∷ []) ∷ (false ∷ []) ∷ (false ∷ []) ∷ []; wants = false ∷ false ∷ true ∷ false ∷ []; enabled = []; made = 0 }
unfolding cells_of
empty-queue = refl

-- where the driver's queue is full, a writer waits there and the message stays
abbrev full : List (Message ℕ)
full = ordinary (1 ∷ 2 ∷ 3 ∷ []) ∷ []

pub full-below : seen (module_turned no_own plain writing (Moved 2) (pair (stacked (busy [] false) (module_with (busy [] false) (busy (ordinary (7 ∷ 8 ∷ []) ∷ []) false) ∷ []) (busy full false))))
    ≡ record {
      turn = Blocked;
      cells = [] ∷ [] ∷ ((7 ∷ 8 ∷ []) ∷ []) ∷ ((1 ∷ 2 ∷ 3 ∷ []) ∷ []) ∷ [];
      waits = (false ∷ []) ∷ (false ∷ []) ∷ (false ∷ []) ∷ (true ∷ []) ∷ [];
      wants = false ∷ false ∷ false ∷ false ∷ [];
      enabled = [];
      made = 0;
    }
unfolding cells_of band_of is_high_priority size_of
full-below = refl

-- so at the head for what goes up
pub full-above : seen (module_turned no_own plain reading (Moved 2) (pair (stacked (busy full false) (module_with (busy (ordinary (7 ∷ 8 ∷ []) ∷ []) false) (busy [] false) ∷ []) (busy [] false))))
    ≡ record {
      turn = Blocked;
      cells = ((1 ∷ 2 ∷ 3 ∷ []) ∷ []) ∷ ((7 ∷ 8 ∷ []) ∷ []) ∷ [] ∷ [] ∷ [];
      waits = (true ∷ []) ∷ (false ∷ []) ∷ (false ∷ []) ∷ (false ∷ []) ∷ [];
      wants = false ∷ false ∷ false ∷ false ∷ [];
      enabled = [];
      made = 0;
    }
unfolding cells_of band_of is_high_priority size_of
full-above = refl

-- What goes down whole stands at the driver. A writer that waited at the queue is let go, but none stands before it; where more
-- stands there, the queue is enabled again.
pub goes-down : seen (module_turned no_own plain writing (Moved 2) (pair (stacked (busy [] false) (module_with (busy [] false) (busy (ordinary (7 ∷ 8 ∷ []) ∷ ordinary (9 ∷ []) ∷ []) true) ∷ []) (busy [] false))))
    ≡ record {
      turn = Moved 2;
      cells = [] ∷ [] ∷ ((9 ∷ []) ∷ []) ∷ ((7 ∷ 8 ∷ []) ∷ []) ∷ [];
      waits = (false ∷ []) ∷ (false ∷ []) ∷ (false ∷ []) ∷ (false ∷ []) ∷ [];
      wants = false ∷ false ∷ false ∷ false ∷ [];
      enabled = writing ∷ [];
      made = 0;
    }
unfolding carried cells_of band_of is_high_priority size_of rank_of
goes-down = refl

-- An answer that says more than the message has isn't that of the turn.
pub no-more-than-there-is : (module_turned no_own plain writing (Moved 9) (pair (stacked (busy [] false) (module_with (busy [] false) (busy (ordinary (7 ∷ 8 ∷ []) ∷ []) false) ∷ []) (busy [] false)))).turn ≡ Moved 2
unfolding carried cells_of band_of is_high_priority size_of rank_of
no-more-than-there-is = refl

-- "a\nb": the line goes up in one call, its echo and the next line's byte follow in another one. The other side's driver had waited,
-- and has room again. Three cells were made, the echo of each byte.
abbrev typed : State ℕ
typed = pair (stacked (busy [] false) (module_with (busy (ordinary (97 ∷ 10 ∷ 98 ∷ []) ∷ []) true) (busy [] false) ∷ []) (busy [] false))

pub lines-go-up : seen (module_turned no_own plain reading (Moved 3) typed)
    ≡ record {
      turn = Moved 3;
      cells = ((97 ∷ 10 ∷ []) ∷ []) ∷ [] ∷ ((97 ∷ 10 ∷ 98 ∷ []) ∷ []) ∷ [] ∷ [];
      waits = (false ∷ []) ∷ (false ∷ []) ∷ (false ∷ []) ∷ (false ∷ []) ∷ [];
      wants = false ∷ true ∷ false ∷ false ∷ [];
      enabled = driver_of Master ∷ [];
      made = 3;
    }
unfolding carried cells_of band_of is_high_priority size_of rank_of data_message
lines-go-up = refl

-- it stops within the message: what is left is put back, and the queue is enabled again
pub stops-within : seen (module_turned no_own plain reading (Moved 2) typed)
    ≡ record {
      turn = Moved 2;
      cells = ((97 ∷ 10 ∷ []) ∷ []) ∷ ((98 ∷ []) ∷ []) ∷ ((97 ∷ 10 ∷ []) ∷ []) ∷ [] ∷ [];
      waits = (false ∷ []) ∷ (false ∷ []) ∷ (false ∷ []) ∷ (false ∷ []) ∷ [];
      wants = false ∷ false ∷ false ∷ false ∷ [];
      enabled = driver_of Master ∷ reading ∷ [];
      made = 2;
    }
unfolding carried cells_of band_of is_high_priority size_of rank_of data_message
stops-within = refl

-- It goes no further than to the message's end.
pub goes-to-the-end : (module_turned no_own plain reading (Moved 9) typed).turn ≡ Moved 3
unfolding carried cells_of band_of is_high_priority size_of rank_of data_message
goes-to-the-end = refl

-- With too few calls the turn isn't at its end.
pub too-few-calls : map (λ n. (calls no_own plain (record { side = Slave; at = 1; way = Up }) n false 3 typed).ended) (0 ∷ 1 ∷ 2 ∷ []) ≡ false ∷ false ∷ true ∷ []
unfolding carried cells_of band_of is_high_priority size_of rank_of data_message
too-few-calls = refl

-- no turn begins in a module while one is under way
pub under-way : (module_turned no_own plain writing (Moved 1) (pair (stacked (busy [] false) (ldterm_stands (record fresh { read_queue = busy [] false; write_queue = busy (ordinary (7 ∷ []) ∷ []) false; in_work = Some (ordinary (1 ∷ [])) }) ∷ []) (busy [] false)))).turn ≡ Blocked
unfolding cells_of band_of is_high_priority size_of
under-way = refl

-- a lower module's queue is the next one past the upper module; behind the lowest one the driver's is
abbrev two : Stream ℕ
two = stacked (busy [] false) (module_with (busy [] false) (busy [] false) ∷ module_with (busy [] false) (busy full false) ∷ []) (busy [] false)

pub room-past : map (λ at. may_pass Down at 0 two) (0 ∷ 1 ∷ 2 ∷ []) ≡ true ∷ false ∷ true ∷ []
unfolding cells_of band_of is_high_priority size_of
room-past = refl

pub names-found : map (λ place. place_named place two.modules) (places.Module names.Ldterm ∷ Driver ∷ []) ≡ Some 1 ∷ None ∷ []
names-found = refl

-- a module without queues stands in no one's way: what it stands above is found, and the queue past it is asked for room
abbrev above_one : Stream ℕ
above_one = stacked (busy [] false) (module_named no_own names.Ptem ∷ module_with (busy [] false) (busy full false) ∷ module_named no_own names.Ptem ∷ []) (busy [] false)

pub name-found-below : map (λ place. place_named place above_one.modules) (places.Module names.Ldterm ∷ Driver ∷ []) ≡ Some 2 ∷ None ∷ []
name-found-below = refl

pub room-past-one : map (λ at. may_pass Down at 0 above_one) (0 ∷ 1 ∷ 2 ∷ 3 ∷ []) ≡ false ∷ false ∷ true ∷ true ∷ []
unfolding cells_of band_of is_high_priority size_of
room-past-one = refl

-- whole turns
pub whole-turns : map (λ way. whole_module (places.Module names.Ldterm) way two) (Up ∷ Down ∷ []) ≡ Moved 0 ∷ Moved 0 ∷ []
whole-turns = refl

pub whole-of-the-first : whole_module (places.Module names.Ldterm) Up typed.ends.slave ≡ Moved 3
unfolding cells_of size_of
whole-of-the-first = refl

pub whole-of-none : whole_module {C = ℕ} (places.Module names.Ldterm) Up new_stream ≡ Idle
whole-of-none = refl

-- A journal's turn of a module's queue is such a turn, once the queue is off the list of enabled ones.
abbrev typed_on : State ℕ
typed_on = record typed { enabled = reading ∷ driver_of Slave ∷ [] }

pub journal-turns-modules : seen (turned no_own plain reading (Moved 3) typed_on)
    ≡ record {
      turn = Moved 3;
      cells = ((97 ∷ 10 ∷ []) ∷ []) ∷ [] ∷ ((97 ∷ 10 ∷ 98 ∷ []) ∷ []) ∷ [] ∷ [];
      waits = (false ∷ []) ∷ (false ∷ []) ∷ (false ∷ []) ∷ (false ∷ []) ∷ [];
      wants = false ∷ true ∷ false ∷ false ∷ [];
      enabled = driver_of Slave ∷ driver_of Master ∷ [];
      made = 3;
    }
unfolding carried cells_of band_of is_high_priority size_of rank_of data_message
journal-turns-modules = refl

-- the state behind its entry, which is a step with the answer that it stores and no other one
pub entry-leads-behind-the-turn : map (λ bytes. map cells_of (after no_own plain typed_on (Turned reading (Moved bytes))).ends.slave.head.queue.messages) (2 ∷ 0 ∷ [])
    ≡ ((97 ∷ 10 ∷ []) ∷ []) ∷ [] ∷ []
unfolding carried cells_of band_of is_high_priority size_of rank_of data_message
entry-leads-behind-the-turn = refl

pub entry-is-a-step : IsTurn no_own plain typed_on reading (Moved 3) (after no_own plain typed_on (Turned reading (Moved 3)))
unfolding carried cells_of band_of is_high_priority size_of rank_of data_message
entry-is-a-step = record { enabled = refl; in_range = refl; answered = refl; leads = refl }

pub idle-entry-is-no-step : IsTurn no_own plain typed_on reading Idle (after no_own plain typed_on (Turned reading Idle)) → ⊥
unfolding carried cells_of band_of is_high_priority size_of rank_of data_message
idle-entry-is-no-step = λ step. let answered = step.answered in (cc)

-- each queue's whole turn is that of what it belongs to
pub whole-turns-by-name : map (λ name. whole_turn name typed) (reading ∷ writing ∷ driver_of Slave ∷ []) ≡ Moved 3 ∷ Moved 0 ∷ Moved 0 ∷ []
unfolding cells_of size_of
whole-turns-by-name = refl
