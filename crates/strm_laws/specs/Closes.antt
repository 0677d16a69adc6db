-- What flushes and closes take from the queues of a pair, and by which rule it goes; a close of a side (flushq(9F), flushband(9F),
-- streamio(7I): I_FLUSH; close(2); STREAMS Programming Guide, "Flush Handling").
use Rattle.std.specs.Prelude.{true, if◌then◌else◌, [], ◌∷◌, ◌++◌}
use Rattle.strm_laws.specs.Prelude.{Side, Master, Slave, Closed, Rule, EndClosed, Carried, Goes, Choice, of_all, cells_gone, queue_behind}
use Rattle.strm_laws.specs.Prelude.{writer_goes, driver_of, head_of, direction_of, is_open, enable_some, new_head}
use Rattle.strm_laws.specs.Earlier.{before_head, before_driver}
use Rattle.strm_laws.specs.Pushes.{modules_emptied}
use Rattle.strm_laws.specs.State.{State, stream, with_stream, with_head_queue, with_driver_queue}

module _ {C : Type 0} where
  -- the head's queue of a side is emptied, and the nearest earlier queue with service is enabled where a writer goes
  abbrev pub head_behind : Choice → Side → State C → State C
  head_behind chosen side s =
      let above = stream side s in
      let q = above.head.queue in
      record (with_stream side (with_head_queue (queue_behind chosen q) above) s) {
        enabled = enable_some (writer_goes chosen q) (before_head side s) s.enabled;
      }

  abbrev pub head_emptied : Rule → Choice → Side → State C → Carried C (State C)
  head_emptied rule chosen side s = record {
    state = head_behind chosen side s;
    gone = Goes (direction_of (head_of side)) rule (cells_gone chosen (stream side s).head.queue.messages) ∷ [];
  }

  -- the driver's queue of a side is emptied
  abbrev pub driver_behind : Choice → Side → State C → State C
  driver_behind chosen side s =
      let below = stream side s in
      let q = below.driver.queue in
      record (with_stream side (with_driver_queue (queue_behind chosen q) below) s) {
        enabled = enable_some (writer_goes chosen q) (before_driver side s) s.enabled;
      }

  abbrev pub driver_emptied : Rule → Choice → Side → State C → Carried C (State C)
  driver_emptied rule chosen side s = record {
    state = driver_behind chosen side s;
    gone = Goes (direction_of (driver_of side)) rule (cells_gone chosen (stream side s).driver.queue.messages) ∷ [];
  }

  -- one after the other
  abbrev pub and_then : Carried C (State C) → (State C → Carried C (State C)) → Carried C (State C)
  and_then t next = let u = next t.state in record { state = u.state; gone = t.gone ++ u.gone }

  -- a side that is closed, with a head as new
  abbrev pub ended : Side → State C → State C
  ended side s = with_stream side (record (stream side s) { opened = Closed; head = new_head }) s

  -- an M_HANGUP that goes up a side's stream, where that is open
  abbrev pub hung_up_at : Side → State C → State C
  hung_up_at side s =
      let above = stream side s in
      if is_open above.opened then with_stream side (record above { head = record above.head { hung_up = true } }) s else s

  -- what stands on a side's head and then on its modules goes, from the top down, and the modules with it
  abbrev pub stream_emptied : Side → State C → Carried C (State C)
  stream_emptied side s = and_then (head_emptied EndClosed of_all side s) (modules_emptied EndClosed side)

  -- A close of a side. The slave's driver keeps what it has for the master. What both drivers have goes with the master,
  -- and an open slave is hung up.
  abbrev pub closed_at : Side → State C → Carried C (State C)
  closed_at Slave s =
      let t = stream_emptied Slave s in
      record { state = ended Slave t.state; gone = t.gone }
  closed_at Master s =
      let t = and_then (and_then (stream_emptied Master s) (driver_emptied EndClosed of_all Master)) (driver_emptied EndClosed of_all Slave) in
      record { state = hung_up_at Slave (ended Master t.state); gone = t.gone }
