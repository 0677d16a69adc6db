-- Turns of the queues of modules (STREAMS Programming Guide, "Service Procedures", "Flow Control"; srv(9E), canputnext(9F),
-- bcanput(9F), putbq(9F)). Places count from the head's, 0, over the modules from the top, to the driver's.
use Rattle.std.specs.Prelude.{ℕ, zero, suc, ◌+◌, ◌-◌, ◌*◌, ◌==◌, max, min, Bool, true, false, not, if◌then◌else◌, List, [], ◌∷◌, ◌++◌, take, Option, None, Some}
use Rattle.strm_laws.specs.Prelude.{Turn, Moved, Blocked, Idle, MODULES, HOPS, Place, QueueName, Side, Way, Down, Asks, Spot, Cells, Acted, Fate}
use Rattle.strm_laws.specs.Prelude.{Took, carried, in_turn, at_place, messages_at, queue_changed, act_among, change_among, direction_at, enable_if}
use Rattle.strm_laws.specs.Prelude.{enable_some, same_place, end_relieves, has_more, turn_ended, first_size}
use Rattle.strm_types.specs.declared.spots.Asks.TheVariants as asked
use Rattle.strm_laws.specs.Behaviours.{Behaviour}
use Rattle.strm_laws.specs.Earlier.{places_of}
use Rattle.strm_laws.specs.Puts.{earlier_at, module_acted, put_in}
use Rattle.strm_laws.specs.Stacked.{Standing, module_asks, module_rests, module_serves}
use Rattle.strm_laws.specs.State.{State, Stream, book, stream, with_stream}
use Rattle.strm_laws.specs.TurnOutcomes.{TurnOutcome, stayed_put}
use Rattle.strm_laws.specs.Past.{has_room_past, writer_waits}

-- What calls of a turn lead to: the state behind them, what has gone or was made, how many bytes they treated, and whether the turn
-- came to its end.
pub record Calls (C : Type 0) : Type 0 where
  pub state : State C
  pub gone : List (Fate C)
  pub bytes : ℕ
  pub ended : Bool

-- How many bytes a turn goes for that was answered so. One that moves something goes from one byte on.
abbrev pub moved_by : Turn → ℕ
moved_by (Moved bytes) = max 1 bytes
moved_by Blocked = 0
moved_by Idle = 0

-- the place of the first of these whose queues have a name, where the first one's place is this
abbrev pub named_from : Place → ℕ → List (Option Place) → Option ℕ
named_from place at [] = None
named_from place at (None ∷ places) = named_from place (suc at) places
named_from place at (Some other ∷ places) = if same_place other place then Some at else named_from place (suc at) places

module _ {C : Type 0} where
  -- the place of the module whose queues have a name, among those of a stream that have places
  abbrev pub place_named : Place → List (Standing C) → Option ℕ
  place_named place ps = named_from place 1 (places_of (take MODULES ps))

  -- the queue of the module at a place once a turn of it ends, of which bytes were taken or not
  abbrev pub queue_ended : Spot → Bool → Stream C → Stream C
  queue_ended here took on =
      record on { modules = change_among (queue_changed here.way (turn_ended took)) (here.at - 1) on.modules }

  -- a turn that treated nothing: the queue wants to be read where it is empty, and else it doesn't
  abbrev pub stayed_at : Turn → Spot → State C → TurnOutcome C
  stayed_at turn here s = stayed_put turn (with_stream here.side (queue_ended here false (stream here.side s)) s)

  -- the same where a writer of a band waits for room ahead
  abbrev pub waits_there : ℕ → Spot → State C → TurnOutcome C
  waits_there band here s = stayed_at Blocked here (writer_waits here.side here.way here.at band s)

  -- The end of a turn in which messages were treated: where bytes went, writers that waited for the queue are let go, and the
  -- queue is enabled again where more stands there.
  abbrev pub module_turn_ended : QueueName → Spot → Bool → State C → State C
  module_turn_ended name here took s =
      let on = stream here.side s in
      record (with_stream here.side (queue_ended here took on) s) {
        enabled = enable_if (at_place (has_more here.way) false here.at on.modules) name
            (enable_some (at_place (end_relieves took here.way) false here.at on.modules) (earlier_at here.side here.at s here.way) s.enabled);
      }

  -- how many cells were made so far in the direction of what a side's stream carries down
  abbrev pub made_below : Side → State C → ℕ
  made_below side s = (book (direction_at Down side) s).made

  module _ (K : Behaviour) (cells : Cells C) (here : Spot) where
    -- One call of the service procedure of the module at a place, which goes as far as so many bytes: what it does, how many bytes
    -- it treated, and whether it is to be called again.
    abbrev pub call_at : ℕ → Bool → ℕ → List (Standing C) → Acted C (List (Standing C))
    call_at made again left ps = act_among (λ p. (module_serves K cells here made again (Some left) p).acted) (here.at - 1) ps

    abbrev pub bytes_at : ℕ → Bool → ℕ → List (Standing C) → ℕ
    bytes_at made again left ps = at_place (λ p. (module_serves K cells here made again (Some left) p).bytes) 0 here.at ps

    abbrev pub again_at : ℕ → Bool → ℕ → List (Standing C) → Bool
    again_at made again left ps = at_place (λ p. (module_serves K cells here made again (Some left) p).again) false here.at ps

    abbrev pub module_called : Bool → ℕ → State C → Took C (State C)
    module_called again left s = module_acted here (call_at (made_below here.side s) again left (stream here.side s).modules) s

    -- Calls one after the other, so many at most, until the turn's bytes are treated: what each has sent is delivered before the next
    -- one.
    abbrev pub calls : ℕ → Bool → ℕ → State C → Calls C
    calls zero again left s = record { state = s; gone = []; bytes = 0; ended = false }
    calls (suc more) again left s =
        let ps = (stream here.side s).modules in
        let made = made_below here.side s in
        let t = module_called again left s in
        let u = in_turn (carried (put_in K cells) HOPS) t.sent t.state in
        let bytes = bytes_at made again left ps in
        let v = calls more true (left - bytes) u.state in
        if again_at made again left ps
        then record { state = v.state; gone = t.gone ++ u.gone ++ v.gone; bytes = bytes + v.bytes; ended = v.ended }
        else record { state = u.state; gone = t.gone ++ u.gone; bytes = bytes; ended = true }

    -- A turn that treats so many bytes. Each call but the last one sends something of a byte, which does so twice at most. Where that
    -- didn't bring the turn to its end, it would be as though nothing was done.
    abbrev pub moved_on : QueueName → ℕ → State C → TurnOutcome C
    moved_on name bytes s =
        let t = calls (3 * bytes + 1) false bytes s in
        if t.ended
        then record { turn = Moved t.bytes; state = module_turn_ended name here (not (t.bytes == 0)) t.state; gone = t.gone }
        else stayed_put Blocked s

    -- No further than to the end of the first message. Of one that has bytes at least one is treated, so that no turn is told as one that moved
    -- something and leaves all as it was.
    abbrev pub moved_within : QueueName → Turn → State C → TurnOutcome C
    moved_within name turn s =
        moved_on name (min (moved_by turn) (at_place (λ p. first_size (messages_at here.way p)) 0 here.at (stream here.side s).modules)) s

    -- By what the first message asks. No turn begins while another one is under way in the module.
    abbrev pub asked_turn : Asks → QueueName → Turn → State C → TurnOutcome C
    asked_turn asked.Empty name turn s = stayed_at Idle here s
    asked_turn asked.Held name turn s = stayed_at Blocked here s
    asked_turn asked.Free name turn s = moved_within name turn s
    asked_turn (asked.Room band) name turn s =
        if has_room_past here.side here.way here.at band.0 s then moved_within name turn s else waits_there band.0 here s

    abbrev pub turned_there : QueueName → Turn → State C → TurnOutcome C
    turned_there name turn s =
        let ps = (stream here.side s).modules in
        if at_place module_rests false here.at ps
        then asked_turn (at_place (module_asks K cells here.way) asked.Empty here.at ps) name turn s
        else stayed_put Blocked s

  -- A turn of a module's queue, taken off the enabled list, which is answered so. Without such a module it is idle.
  abbrev pub turned_named : Behaviour → Cells C → QueueName → Turn → State C → Option ℕ → TurnOutcome C
  turned_named K cells name turn s None = stayed_put Idle s
  turned_named K cells name turn s (Some at) = turned_there K cells (record { side = name.side; at = at; way = name.way }) name turn s

  abbrev pub module_turned : Behaviour → Cells C → QueueName → Turn → State C → TurnOutcome C
  module_turned K cells name turn s = turned_named K cells name turn s (place_named name.place (stream name.side s).modules)

  -- the answer of a turn that treats the first message of such a queue whole
  abbrev pub whole_module : Place → Way → Stream C → Turn
  whole_module place way on = by (place_named place on.modules)
    where
      by : Option ℕ → Turn
      by None = Idle
      by (Some at) = Moved (at_place (λ p. first_size (messages_at way p)) 0 at on.modules)
