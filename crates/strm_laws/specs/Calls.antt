-- The calls on a pair: what each one does where nothing refuses it.
use Rattle.std.specs.Prelude.{ℕ, suc, ◌+◌, Bool, true, false, not, min, if◌then◌else◌, List, [], length, map, take, Option, None, Some, option_map}
use Rattle.strm_laws.specs.Prelude.{READ_MAX, Done, Count, Bytes, Msg, Sizes, OpenMaster, Unlock, OpenSlave, Shut, Push, Pop, Look, Write, Read, Put}
use Rattle.strm_laws.specs.Prelude.{Get, Mode, Nread, IoctlResult, StopSignal, Free, Waiting, Caller, Prio, Wanted, ModuleName, Side, Master, Slave}
use Rattle.strm_laws.specs.Prelude.{Open, Down, Cells, cells_written, bytes_of, asks_group, group_behind, group_reply, driver_of, direction_from}
use Rattle.strm_laws.specs.Prelude.{direction_of, enable_if, enable_some, head_of, new_head, with_written, head_draw, read_gone, read_queue}
use Rattle.strm_laws.specs.Prelude.{read_lets_go, is_none_left, Carried, Fate, Request, Reply, get_gone, get_queue, get_lets_go, head_get, prio_got}
use Rattle.strm_laws.specs.Prelude.{first_data, asking, ioctl_message, Message, cells_of, part, map_fate, put_message, no_parts, told_of, slot_behind}
use Rattle.strm_types.specs.declared.answers.Answer.TheVariants.{Name, Signals, Stop}
use Rattle.strm_types.specs.declared.events.Event.TheVariants.{Flush, Ioctl}
use Rattle.strm_types.specs.declared.events.Event.TheVariants as events
use Rattle.strm_types.specs.declared.modes.Mode as modes
use Rattle.strm_laws.specs.Behaviours.{Behaviour}
use Rattle.strm_laws.specs.Earlier.{before_head}
use Rattle.strm_laws.specs.State.{State, stream, with_stream, with_head_queue, with_ioctl, with_signals, book, with_book, map_state}
use Rattle.strm_types.specs.Heads.{with_mode}
use Rattle.strm_laws.specs.Writes.{Wrote, cells_sent}
use Rattle.strm_laws.specs.Closes.{closed_at}
use Rattle.strm_laws.specs.Pushes.{named_by, popped, pushed_named, top_on}
use Rattle.strm_laws.specs.Puts.{delivered, flushed_on}
use Rattle.strm_laws.specs.Refusals.{stop_of}

-- the name of the module on top is told; there is one where a look isn't refused
abbrev pub name_told : Option ModuleName → Reply
name_told None = Done
name_told (Some name) = Name name

-- What a call leads to: its answer, the state behind it, the cells that it brought, and what it took away by its rules or made on the way.
pub record Outcome (C : Type 0) : Type 0 where
  pub answer : Reply
  pub state : State C
  pub came : List C
  pub gone : List (Fate C)

-- the same of other cells
abbrev pub map_outcome : {C D : Type 0} → (C → D) → Outcome C → Outcome D
map_outcome f outcome = record { answer = outcome.answer; state = map_state f outcome.state; came = map f outcome.came; gone = map (map_fate f) outcome.gone }

-- whether a call delivers messages, which modules may make more of
abbrev pub delivers : Request → Bool
delivers (Write bytes) = true
delivers (Put prio control body) = true
delivers (Flush what band) = true
delivers (Ioctl command body) = true
delivers _ = false

module _ {C : Type 0} where
  -- a call that brings and takes no byte
  abbrev pub tells : Reply → State C → Outcome C
  tells reply s = record { answer = reply; state = s; came = []; gone = [] }

  -- one that has nothing to tell either, and one that brings nothing and takes something away
  abbrev pub done : State C → Outcome C
  done s = tells Done s

  abbrev pub takes : Carried C (State C) → Outcome C
  takes t = record { answer = Done; state = t.state; came = []; gone = t.gone }

  -- the master is opened
  abbrev pub opened_master : State C → State C
  opened_master s = with_stream Master (record (stream Master s) { opened = Open }) s

  -- The slave is opened: its head is as new, and what waits for it on the master's driver may come.
  abbrev pub opened_slave : State C → State C
  opened_slave s = record (with_stream Slave (record (stream Slave s) { opened = Open; head = new_head }) s) {
    enabled = enable_if (not (is_none_left (stream Master s).driver.queue.messages)) (driver_of Master) s.enabled;
  }

  -- what a write of these bytes on a side's stream sends down
  abbrev pub write_sent : Behaviour → Cells C → Side → List ℕ → State C → Wrote C
  write_sent K cells side bytes s =
      let dir = direction_from side in
      cells_sent K cells side (cells_written cells dir (book dir s).written bytes) s

  -- a write of these bytes: those that go down are booked as written
  abbrev pub wrote : Behaviour → Cells C → Side → List ℕ → State C → Outcome C
  wrote K cells side bytes s =
      let dir = direction_from side in
      let t = write_sent K cells side bytes s in
      record {
        answer = Count t.taken;
        state = with_book dir (with_written t.taken (book dir t.state)) t.state;
        came = take t.taken (cells_written cells dir (book dir s).written bytes);
        gone = t.gone;
      }

  -- a read of up to n bytes on a side's stream, in the modes of its head
  abbrev pub read_at : Cells C → Side → ℕ → State C → Outcome C
  read_at cells side n s =
      let above = stream side s in
      let h = above.head in
      let most = min n READ_MAX in
      record {
        answer = Bytes (bytes_of cells (head_draw h.read_mode h.control_mode most h.queue.messages).given);
        state = record (with_stream side (with_head_queue (read_queue h.read_mode h.control_mode most h.queue) above) s) {
          enabled = enable_some (read_lets_go h.read_mode h.control_mode most h.queue) (before_head side s) s.enabled;
        };
        came = [];
        gone = read_gone (direction_of (head_of side)) h.read_mode h.control_mode most h.queue.messages;
      }

  -- a get of up to these sizes on a side's stream
  abbrev pub get_at : Cells C → Side → Wanted → ℕ → ℕ → State C → Outcome C
  get_at cells side wanted cmax dmax s =
      let above = stream side s in
      let q = above.head.queue in
      let most_control = min cmax READ_MAX in
      let most_data = min dmax READ_MAX in
      let got = head_get wanted most_control most_data q.messages in
      record {
        answer = Msg (prio_got got) (option_map (bytes_of cells) got.control) (option_map (bytes_of cells) got.body) got.more_control got.more_data;
        state = record (with_stream side (with_head_queue (get_queue wanted most_control most_data q) above) s) {
          enabled = enable_some (get_lets_go wanted most_control most_data q) (before_head side s) s.enabled;
        };
        came = [];
        gone = get_gone (direction_of (head_of side)) wanted most_control most_data q.messages;
      }

  -- the message that a putmsg on a side's stream sends: the bytes of its control part are written before those of its data part
  abbrev pub message_put : Cells C → Side → Prio → Option (List ℕ) → Option (List ℕ) → State C → Message C
  message_put cells side prio control body s =
      let dir = direction_from side in
      let n = (book dir s).written in
      put_message prio (option_map (cells_written cells dir n) control) (option_map (cells_written cells dir (n + length (part control))) body)

  -- A putmsg of these parts on a side's stream: its message goes down from the head, and its bytes are booked as written. Without
  -- a part nothing is sent.
  abbrev pub put_at : Behaviour → Cells C → Side → Prio → Option (List ℕ) → Option (List ℕ) → State C → Carried C (State C)
  put_at K cells side prio control body s =
      if no_parts control body then record { state = s; gone = [] }
      else (let dir = direction_from side in
      let t = delivered K cells (record { side = side; at = 1; way = Down }) (message_put cells side prio control body s) s in
      record { state = with_book dir (with_written (length (part control) + length (part body)) (book dir t.state)) t.state; gone = t.gone })

  -- a mode of a side's head is set
  abbrev pub mode_set : Side → modes.Mode → State C → State C
  mode_set side mode s = let above = stream side s in with_stream side (record above { head = with_mode mode above.head }) s

  -- what stands at a side's head
  abbrev pub sizes_at : Side → State C → Outcome C
  sizes_at side s = let q = (stream side s).head.queue.messages in tells (Sizes (first_data q) (length q)) s

  -- an ioctl begins on a side's stream: it has the next number of the pair, and waits for its answer
  abbrev pub ioctl_begun : Side → ℕ → State C → State C
  ioctl_begun side command s = record (with_ioctl side (Waiting s.next_ioctl command) s) { next_ioctl = suc s.next_ioctl }

  -- its M_IOCTL goes down from the head
  abbrev pub ioctl_sent : Behaviour → Cells C → Side → ℕ → List ℕ → State C → Carried C (State C)
  ioctl_sent K cells side command body s =
      delivered K cells (record { side = side; at = 1; way = Down }) (ioctl_message (asking command s.next_ioctl) body) (ioctl_begun side command s)

  -- the caller is told what became of the ioctl under way
  abbrev pub ioctl_told : Side → State C → Outcome C
  ioctl_told side s =
      let slot = (stream side s).head.ioctl in
      tells (told_of slot) (with_ioctl side (slot_behind slot) s)

  -- an ioctl, whose M_IOCTL goes down, and whose caller is told what became of it so far
  abbrev pub ioctl_at : Behaviour → Cells C → Side → ℕ → List ℕ → State C → Outcome C
  ioctl_at K cells side command body s =
      let t = ioctl_sent K cells side command body s in
      record (ioctl_told side t.state) { gone = t.gone }

  -- one that the head answers itself: it takes a number, and tells or sets the foreground process group; none is under way behind it
  abbrev pub group_at : Side → ℕ → List ℕ → State C → Outcome C
  group_at side command body s =
      let above = stream side s in
      let h = above.head in
      tells (group_reply command body h.group)
      (record (with_stream side (record above { head = record h { group = group_behind command body h.group; ioctl = Free } }) s) { next_ioctl = suc s.next_ioctl })

  -- the slave's head answers what asks for its group, and all else is sent down
  abbrev pub ioctl_called : Behaviour → Cells C → Side → ℕ → List ℕ → State C → Outcome C
  ioctl_called K cells side command body s = if asks_group side command then group_at side command body s else ioctl_at K cells side command body s

  -- the signals that wait at a side's head are handed out
  abbrev pub signals_told : Side → State C → Outcome C
  signals_told side s = tells (Signals (stream side s).head.signals) (with_signals side [] s)

  abbrev pub looked : Side → State C → Outcome C
  looked side s = tells (name_told (top_on side s)) s

  -- what a call leads to that is carried out
  abbrev pub performed : Behaviour → Cells C → Caller → Request → State C → Outcome C
  performed K cells caller OpenMaster s = done (opened_master s)
  performed K cells caller Unlock s = done (record s { locked = false })
  performed K cells caller OpenSlave s = done (opened_slave s)
  performed K cells caller Shut s = takes (closed_at caller.side s)
  performed K cells caller (Push name) s = takes (pushed_named caller.side (named_by K name) s)
  performed K cells caller Pop s = takes (popped caller.side s)
  performed K cells caller Look s = looked caller.side s
  performed K cells caller (Flush what band) s = takes (flushed_on K cells band caller.side what s)
  performed K cells caller (Write bytes) s = wrote K cells caller.side bytes s
  performed K cells caller (Read n) s = read_at cells caller.side n s
  performed K cells caller (Put prio control body) s = record (takes (put_at K cells caller.side prio control body s)) { came = cells_of (message_put cells caller.side prio control body s) }
  performed K cells caller (Get wanted cmax dmax) s = get_at cells caller.side wanted cmax dmax s
  performed K cells caller (Mode mode) s = done (mode_set caller.side mode s)
  performed K cells caller Nread s = sizes_at caller.side s
  performed K cells caller (Ioctl command body) s = ioctl_called K cells caller.side command body s
  performed K cells caller (IoctlResult number) s = ioctl_told caller.side s
  performed K cells caller events.Signals s = signals_told caller.side s

  -- the caller is stopped by a signal, and nothing changes
  abbrev pub or_stopped : Option StopSignal → State C → Outcome C → Outcome C
  or_stopped None s outcome = outcome
  or_stopped (Some signal) s outcome = tells (Stop signal) s

  -- what a call leads to where nothing refuses it: its caller is stopped, or it is carried out
  abbrev pub called : Behaviour → Cells C → Caller → Request → State C → Outcome C
  called K cells caller asked s = or_stopped (stop_of s caller asked) s (performed K cells caller asked s)
