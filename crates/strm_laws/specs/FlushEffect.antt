-- What a flush of a side's stream takes where no module stands on it, said by the queues that it reaches (flushq(9F),
-- flushband(9F); streamio(7I): I_FLUSH; STREAMS Programming Guide, "Flush Handling").
use Rattle.std.specs.Prelude.{if◌then◌else◌, []}
use Rattle.strm_laws.specs.Prelude.{FlushQueues, Side, Flushed, Carried, Choice, other, is_open}
use Rattle.strm_types.specs.declared.events.FlushQueues.TheVariants.{Read, Write, Both}
use Rattle.strm_laws.specs.Closes.{head_emptied, driver_emptied, and_then}
use Rattle.strm_laws.specs.State.{State, stream}

module _ {C : Type 0} where
  -- nothing goes
  abbrev pub none_gone : State C → Carried C (State C)
  none_gone s = record { state = s; gone = [] }

  -- what a driver sends up a side's stream reaches its head, where that is open
  abbrev pub reached : Choice → Side → State C → Carried C (State C)
  reached chosen side s = if is_open (stream side s).opened then head_emptied Flushed chosen side s else none_gone s

  -- FLUSHW at the driver of a side: its own queue, and then what stands for the readers across
  abbrev pub write_flushed : Choice → Side → State C → Carried C (State C)
  write_flushed chosen side s = and_then (driver_emptied Flushed chosen side s) (reached chosen (other side))

  -- FLUSHR at the driver of a side: the driver's queue across, and then what stands for the side's own readers
  abbrev pub read_flushed : Choice → Side → State C → Carried C (State C)
  read_flushed chosen side s = and_then (driver_emptied Flushed chosen (other side) s) (reached chosen side)

  -- a flush of a side's stream
  abbrev pub flush_effect : Choice → Side → FlushQueues → State C → Carried C (State C)
  flush_effect chosen side Read s = read_flushed chosen side s
  flush_effect chosen side Write s = write_flushed chosen side s
  flush_effect chosen side Both s = and_then (write_flushed chosen side s) (read_flushed chosen side)
