-- Which refusal a call or a turn meets: the first whose condition holds, in this order. A side that isn't open; an
-- argument; a book that is full; a full journal; too few free blocks; what the state says: job control, and what is there.
use Rattle.std.specs.Prelude.{ℕ, Bool, true, not, ◌&&◌, ◌||◌, nat_lt, nat_le, ◌+◌, ◌-◌, List, length, Option, None, is_some}
use Rattle.strm_laws.specs.Prelude.{Config, Verdict, StopSignal, foreground, held, refusal_behind, stop_in, Caller, QueueName, Refusal, Einval}
use Rattle.strm_laws.specs.Prelude.{Eagain, Enxio, Enosr, Erange, JournalFull, MasterToSlave, SlaveToMaster, Side, Master, Slave, Needs, Reach}
use Rattle.strm_laws.specs.Prelude.{is_master, is_enabled, is_open, is_closed, is_free, result_refusal, chunk_count, read_refusal, get_refusal}
use Rattle.strm_laws.specs.Prelude.{put_waits, IOCTL_END, OpenMaster, OpenSlave, Push, Pop, Look, Write, Read, Put, Get, IoctlResult, Request, needs}
use Rattle.strm_laws.specs.Prelude.{PlainEntry, room_used, messages_at, Up, or_else, unless, has_no_data}
use Rattle.strm_types.specs.declared.needs.Reach.TheVariants as reaches
use Rattle.std.specs.List.{list_any}
use Rattle.strm_types.specs.Names.{is_never}
use Rattle.strm_laws.specs.Behaviours.{Behaviour}
use Rattle.strm_laws.specs.Pushes.{may_stand, named_by, top_on}
use Rattle.strm_laws.specs.State.{State, book, stream}
use Rattle.strm_types.specs.PutMsg.{put_blocks}
use Rattle.strm_types.specs.declared.events.Event.TheVariants.{Ioctl}
use Rattle.strm_types.specs.Books as books
use Rattle.strm_laws.specs.Writes.{is_full_below}
use Rattle.strm_laws.specs.Stacked.{Standing}

-- how many blocks of each kind are free
pub record Free : Type 0 where
  pub mblks : ℕ
  pub dblks : ℕ

-- the blocks that are free, where so many are used of each kind
abbrev pub free_beside : ℕ → Config → Free
free_beside used limits = record { mblks = limits.mblks - used; dblks = limits.dblks - used }

-- so many blocks of each kind are free
abbrev pub enough : ℕ → Free → Bool
enough need free = nat_le need free.mblks && nat_le need free.dblks

-- how many blocks of each kind a call may take: a write one for each of its messages, a putmsg one for each of its parts, an
-- ioctl one for its header and one for what is sent with it
abbrev pub blocks_taken : Request → ℕ
blocks_taken (Write bytes) = chunk_count (length bytes)
blocks_taken (Put prio control body) = put_blocks control body
blocks_taken (Ioctl command body) = 2
blocks_taken _ = 0

-- how many blocks of each kind have to be free for a call
abbrev pub blocks_asked : Request → ℕ
blocks_asked asked = (needs asked).blocks

-- the journal takes one more entry with so many bytes
abbrev pub has_room : List PlainEntry → Config → ℕ → Bool
has_room entries limits bytes =
    nat_lt (length entries) limits.journal_events && nat_le (room_used entries + bytes) limits.journal_bytes

module _ {C : Type 0} where
  -- the stream of a side is open, and the other end isn't gone
  abbrev pub goes_down : Side → State C → Bool
  goes_down side s = is_open (stream side s).opened && not (stream side s).head.hung_up

  -- nor on the read queues of modules
  abbrev pub none_waits_up : List (Standing C) → Bool
  none_waits_up ps = not (list_any (λ p. not (has_no_data (messages_at Up p))) ps)

  -- The end of input at a side's head, where nothing is to be read there: the other end is gone, or the slave was closed and
  -- no M_DATA or M_PROTO of it stands anywhere.
  abbrev pub at_end : Side → State C → Bool
  at_end Slave s = (stream Slave s).head.hung_up
  at_end Master s =
      let above = stream Master s in
      let across = stream Slave s in
      above.head.hung_up
      || (is_closed across.opened && (has_no_data across.driver.queue.messages && (none_waits_up above.modules && has_no_data above.head.queue.messages)))

  -- more may be written and made in both directions, as a call in one may make bytes in the other
  abbrev pub in_range : State C → Bool
  in_range s = books.has_room (book MasterToSlave s) && books.has_room (book SlaveToMaster s)

  -- the stream that a call asks for is there
  abbrev pub is_reached : Side → Reach → State C → Bool
  is_reached side reaches.Nothing s = true
  is_reached side reaches.Master s = is_open (stream Master s).opened
  is_reached side reaches.Own s = is_open (stream side s).opened
  is_reached side reaches.Down s = goes_down side s

  -- a number is left for the next ioctl
  abbrev pub is_numbered : State C → Bool
  is_numbered s = nat_lt s.next_ioctl IOCTL_END

  -- what a call of a side is refused for before all else, by what it asks for: the stream, then who may make it and its arguments, and
  -- then numbers and the books
  abbrev pub unmet : State C → Side → Needs → Option Refusal
  unmet s side n =
      or_else (unless (is_reached side n.reach s) Enxio)
      (or_else (unless (not n.masters || is_master side) Einval)
      (or_else n.wrong
      (or_else (unless (not n.numbered || is_numbered s) Erange)
      (unless (not n.makes || in_range s) Erange))))

  -- and so a call
  abbrev pub refused_at_once : State C → Caller → Request → Option Refusal
  refused_at_once s caller asked = unmet s caller.side (needs asked)

  -- what job control makes of a call, by its caller and what it does at the terminal
  abbrev pub hold : State C → Caller → Request → Verdict
  hold s caller asked = let h = (stream caller.side s).head in held (needs asked).access h.tostop (foreground h.hung_up h.group) caller

  -- what a call that isn't held is refused for, as it doesn't fit what is there
  abbrev pub unfit : Behaviour → State C → Caller → Request → Option Refusal
  unfit K s caller OpenMaster = unless (is_never (stream Master s).opened) Einval
  unfit K s caller OpenSlave =
      or_else (unless (not (is_open (stream Slave s).opened)) Einval) (unless (not s.locked) Eagain)
  unfit K s caller (Write bytes) = unless (not (is_full_below 0 caller.side s)) Eagain
  unfit K s caller (Read n) =
      let h = (stream caller.side s).head in
      read_refusal h.control_mode (at_end caller.side s) n h.queue.messages
  unfit K s caller (Put prio control body) = unless (not (put_waits prio control body (λ band. is_full_below band caller.side s))) Eagain
  unfit K s caller (Get wanted cmax dmax) = get_refusal wanted (at_end caller.side s) (stream caller.side s).head.queue.messages
  unfit K s caller (Ioctl command body) = unless (is_free (stream caller.side s).head.ioctl) Eagain
  unfit K s caller (IoctlResult number) = result_refusal number (stream caller.side s).head.ioctl
  unfit K s caller (Push name) = unless (may_stand (named_by K name) (stream caller.side s).modules) Einval
  unfit K s caller Pop = unless (is_some (top_on caller.side s)) Einval
  unfit K s caller Look = unless (is_some (top_on caller.side s)) Einval
  unfit K s caller _ = None

  -- What a call is refused for after all else: what the state says. Job control comes first, so that a caller in the background isn't told
  -- what waits.
  abbrev pub refused_by_state : Behaviour → State C → Caller → Request → Option Refusal
  refused_by_state K s caller asked = refusal_behind (hold s caller asked) (unfit K s caller asked)

  -- the signal by which a call stops its caller, where it isn't refused
  abbrev pub stop_of : State C → Caller → Request → Option StopSignal
  stop_of s caller asked = stop_in (hold s caller asked)

  -- the refusal of a call, if any, where the pool has enough blocks for it or not
  abbrev pub refused : Behaviour → State C → List PlainEntry → Config → Bool → Caller → Request → Option Refusal
  refused K s entries limits has_blocks caller asked =
      or_else (refused_at_once s caller asked)
      (or_else (unless (has_room entries limits ((needs asked).brings + (needs asked).gives)) JournalFull)
      (or_else (unless has_blocks Enosr)
      (refused_by_state K s caller asked)))

  -- the refusal of a turn, if any, where the pool has enough blocks for it or not
  abbrev pub turn_refused : State C → List PlainEntry → Config → Bool → QueueName → Option Refusal
  turn_refused s entries limits has_blocks name =
      or_else (unless (is_enabled name s.enabled) Einval)
      (or_else (unless (in_range s) Erange)
      (or_else (unless (has_room entries limits 0) JournalFull)
      (unless has_blocks Enosr)))
