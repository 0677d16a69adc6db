-- Whether a message may go on past a place of a side's stream, and a writer that waits for room there: the nearest queue past it is
-- that of a module, or else the one at the stream's end (canputnext(9F), bcanput(9F); STREAMS Programming Guide, "Flow Control").
use Rattle.std.specs.Prelude.{ℕ, Bool, not, Option, None, Some, unwrap_or}
use Rattle.strm_laws.specs.Prelude.{Side, Way, Up, Down, can_pass, place_past, waits_at, with_waiting, Queue, is_full}
use Rattle.strm_laws.specs.State.{State, Stream, stream, with_stream, with_head_queue, with_driver_queue}

module _ {C : Type 0} where
  -- the queue at the end of a stream's way: the head's, and the driver's
  abbrev pub end_queue : Way → Stream C → Queue C
  end_queue Up t = t.head.queue
  end_queue Down t = t.driver.queue

  abbrev pub with_end_queue : Way → Queue C → Stream C → Stream C
  with_end_queue Up q t = with_head_queue q t
  with_end_queue Down q t = with_driver_queue q t

  -- whether a message of a band may go on past a place of a stream
  abbrev pub may_pass : Way → ℕ → ℕ → Stream C → Bool
  may_pass way at band t = unwrap_or (can_pass way band at t.modules) (not (is_full band (end_queue way t)))

  abbrev pub has_room_past : Side → Way → ℕ → ℕ → State C → Bool
  has_room_past side way at band s = may_pass way at band (stream side s)

  -- a writer of a band waits at a module's place, or at the stream's end
  abbrev pub waits_on : Way → ℕ → Option ℕ → Stream C → Stream C
  waits_on way band None t = with_end_queue way (with_waiting band (end_queue way t)) t
  waits_on way band (Some place) t = record t { modules = waits_at way band t.modules (Some place) }

  -- it waits at the nearest queue past a place
  abbrev pub writer_waits : Side → Way → ℕ → ℕ → State C → State C
  writer_waits side way at band s =
      let t = stream side s in
      with_stream side (waits_on way band (place_past way at t.modules) t) s
