-- Turns of the service procedures (STREAMS Programming Guide, "Service Procedures"; canput(9F), getq(9F)).
use Rattle.std.specs.Prelude.{ℕ, Bool, true, false, not, ◌&&◌, ◌||◌, ◌==◌, if◌then◌else◌, List, [], ◌∷◌}
use Rattle.strm_laws.specs.Prelude.{Turn, Moved, Blocked, Idle, Side, Place, Driver, QueueName, Message, size_of, band_of, is_held, Queue}
use Rattle.strm_laws.specs.Prelude.{is_none_left, left_with, relieved, relieves, first_size, Cells, Way, Up, Spot, other, driver_of, is_open, without}
use Rattle.strm_laws.specs.Prelude.{enable_if, enable_some}
use Rattle.strm_types.specs.declared.names.Place.TheVariants.{Head}
use Rattle.strm_types.specs.declared.names.Place.TheVariants as places
use Rattle.strm_laws.specs.Behaviours.{Behaviour}
use Rattle.strm_laws.specs.Puts.{delivered}
use Rattle.strm_laws.specs.Earlier.{before_driver, driver_place, modules_on}
use Rattle.strm_laws.specs.ModuleTurns.{module_turned, whole_module}
use Rattle.strm_laws.specs.Past.{has_room_past, writer_waits}
use Rattle.strm_laws.specs.TurnOutcomes.{TurnOutcome, stayed_put}
use Rattle.strm_laws.specs.State.{State, Stream, stream, with_stream, with_driver_queue}

module _ {C : Type 0} where
  -- the lowest place of the other side's stream on the way up: that of its lowest module, and where there is none the head's
  abbrev pub up_across : Side → State C → Spot
  up_across side s = record { side = other side; at = modules_on (other side) s; way = Up }

  -- the queue after a turn that may not treat its first message, which stays
  abbrev pub held_back : Queue C → Queue C
  held_back q = record q { want_read = false }

  -- the driver's queue of a side is another one
  abbrev pub with_driver : Side → Queue C → State C → State C
  with_driver side q s = with_stream side (with_driver_queue q (stream side s)) s

  -- the queue of a turn that took a message off it, once what came of that is done: empty, it wants to be read
  abbrev pub turned_queue : Queue C → Queue C
  turned_queue q = record q { want_read = q.want_read || is_none_left q.messages }

  -- The end of a turn of a driver that took a message of this size: where bytes went, writers that waited for its queue are let
  -- go, and the queue is enabled again where more stand there.
  abbrev pub turn_ended : Side → ℕ → State C → State C
  turn_ended side size s =
      let q = turned_queue (stream side s).driver.queue in
      let went = not (size == 0) in
      record (with_driver side (if went then relieved q else q) s) {
        enabled = enable_if (not (is_none_left q.messages)) (driver_of side)
            (enable_some (went && relieves q) (before_driver side s) s.enabled);
      }

  -- a message taken off the driver's queue of a side goes up the other side's stream, with all that it gives rise to
  abbrev pub moved_across : Behaviour → Cells C → Side → Message C → List (Message C) → State C → TurnOutcome C
  moved_across K cells side m rest s =
      let from = with_driver side (left_with rest (stream side s).driver.queue) s in
      let t = delivered K cells (up_across side from) m from in
      record { turn = Moved (size_of m); state = turn_ended side (size_of m) t.state; gone = t.gone }

  -- the nearest queue past the driver on the way up the other side's stream has no room for the message
  abbrev pub is_stopped_across : Side → Message C → State C → Bool
  is_stopped_across side m s = is_held m.kind && not (has_room_past (other side) Up (driver_place (other side) s) (band_of m) s)

  -- a writer waits for it there
  abbrev pub blocked_across : Side → Message C → State C → State C
  blocked_across side m s = writer_waits (other side) Up (driver_place (other side) s) (band_of m) s

  -- A driver sends its first message up the other side's stream, unless that isn't open, or the next queue there is full in the
  -- message's band.
  abbrev pub driver_serves : Behaviour → Cells C → Side → List (Message C) → State C → TurnOutcome C
  driver_serves K cells side [] s = stayed_put Idle (with_driver side (record (stream side s).driver.queue { want_read = true }) s)
  driver_serves K cells side (m ∷ rest) s =
      let above = stream (other side) s in
      let waits = with_driver side (held_back (stream side s).driver.queue) s in
      if not (is_open above.opened) then stayed_put Blocked waits
      else (if is_stopped_across side m s then stayed_put Blocked (blocked_across side m waits)
      else moved_across K cells side m rest s)

  -- a turn of the driver of a side, taken off the enabled list
  abbrev pub driver_turned : Behaviour → Cells C → Side → State C → TurnOutcome C
  driver_turned K cells side s = driver_serves K cells side (stream side s).driver.queue.messages s

  -- by what the queue belongs to: heads have no service procedure
  abbrev pub turned_at : Behaviour → Cells C → Place → QueueName → Turn → State C → TurnOutcome C
  turned_at K cells Driver name turn s = driver_turned K cells name.side s
  turned_at K cells Head name turn s = stayed_put Idle s
  turned_at K cells (places.Module owner) name turn s = module_turned K cells name turn s

  -- A turn of an enabled queue, which is answered so. Where a service procedure may stop within a message, the answer says
  -- how far it went.
  abbrev pub turned : Behaviour → Cells C → QueueName → Turn → State C → TurnOutcome C
  turned K cells name turn s = turned_at K cells name.place name turn (record s { enabled = without name s.enabled })

  -- the answer of a turn that treats the first message of its queue whole
  abbrev pub whole_at : Place → Way → Stream C → Turn
  whole_at Driver way from = Moved (first_size from.driver.queue.messages)
  whole_at Head way from = Idle
  whole_at (places.Module owner) way from = whole_module (places.Module owner) way from

  abbrev pub whole_turn : QueueName → State C → Turn
  whole_turn name s = whole_at name.place name.way (stream name.side s)
