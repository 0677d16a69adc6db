-- What a pseudoterminal's driver does with a message that is put at it, the master's as the slave's (ptm(7D), pts(7D); STREAMS
-- Programming Guide, "Flush Handling"). A driver has a write queue. What it has there goes up the other side's stream in turns
-- of its service procedure.
use Rattle.std.specs.Prelude.{suc, Bool, true, false, ◌==◌, ◌&&◌, ◌||◌, if◌then◌else◌, List, [], ◌∷◌, ◌++◌, Option, None, Some}
use Rattle.strm_types.specs.declared.flushing.FlushAsked.{FlushAsked}
use Rattle.strm_types.specs.declared.ioctls.Ioc.{Ioc}
use Rattle.strm_types.specs.declared.kinds.MsgKind.{MsgKind}
use Rattle.strm_types.specs.declared.limits.TheConstants.{MODULES}
use Rattle.strm_types.specs.declared.kinds.MsgKind.TheVariants.{Data, Proto, Pcproto, Stop, Start, Ioctl, Iocack, Iocnak, Flush}
use Rattle.strm_types.specs.declared.names.Side.{Side}
use Rattle.strm_types.specs.declared.names.Way.{Way}
use Rattle.strm_types.specs.declared.names.Way.TheVariants.{Up, Down}
use Rattle.strm_types.specs.declared.rules.Rule.TheVariants.{Flushed, EndClosed}
use Rattle.strm_types.specs.declared.spots.Across.{Across}
use Rattle.strm_types.specs.declared.spots.Note.TheVariants.{Enable, Room}
use Rattle.strm_types.specs.declared.spots.Spot.{Spot}
use Rattle.strm_types.specs.Deliver.{Acted, Parcel, toward, Goes}
use Rattle.strm_types.specs.Emptied.{of_data, cells_gone, queue_behind, writer_goes}
use Rattle.strm_types.specs.Flushing.{asked_by, read_flush, flush_message}
use Rattle.strm_types.specs.Ioctls.{read_ioc, nak_message}
use Rattle.strm_types.specs.Message.{Message, cells_of, has_parts}
use Rattle.strm_types.specs.Names.{is_master, other, direction_from}
use Rattle.strm_types.specs.Queue.{Queue, put_on, put_enables}

-- the kinds that always cross from one side to the other by the driver's queue
unfoldable pub crosses : MsgKind → Bool
crosses Data = true
crosses Proto = true
crosses Pcproto = true
crosses Stop = true
crosses Start = true
crosses Iocack = true
crosses Iocnak = true
crosses _ = false

-- the place above the other side's driver, on the way up, and that driver itself, which has the place behind all modules' there
abbrev pub bottom_across : Side → Across → Spot
bottom_across side across = record { side = other side; at = across.bottom; way = Up }

abbrev pub driver_across : Side → Across → Spot
driver_across side across = record { side = other side; at = suc MODULES; way = Up }

module _ {C : Type 0} where
  -- the message is freed
  abbrev pub freed : Queue C → Acted C (Queue C)
  freed q = record { state = q; notes = []; sent = []; gone = [] }

  -- the message is put on the queue; once the master is closed nothing crosses any more, and its bytes go
  abbrev pub taken_in : Side → Across → Message C → Queue C → Acted C (Queue C)
  taken_in side across m q =
      if across.ended then record (freed q) { gone = Goes (direction_from side) EndClosed (cells_of m) ∷ [] }
      else record (freed (put_on m q)) { notes = if put_enables m q then Enable Down ∷ [] else [] }

  -- the driver's own queue is flushed
  abbrev pub own_flushed : Side → FlushAsked → Queue C → Acted C (Queue C)
  own_flushed side asked q =
      let chosen = of_data asked.band in
      record {
        state = queue_behind chosen q;
        notes = if writer_goes chosen q then Room Down ∷ [] else [];
        sent = [];
        gone = Goes (direction_from side) Flushed (cells_gone chosen q.messages) ∷ [];
      }

  -- an M_FLUSH with FLUSHR alone to a spot, where a condition holds
  abbrev pub reader_flush : Bool → FlushAsked → Spot → List (Parcel C)
  reader_flush goes asked to = if goes then record { to = to; message = flush_message (read_flush asked.band) } ∷ [] else []

  -- An M_FLUSH that comes down. FLUSHW: the own queue, and then the readers across, if that side is open. FLUSHR: the driver
  -- across, which flushes its queue and sends it on to this side's readers.
  abbrev pub flush_down : Side → Across → FlushAsked → Queue C → Acted C (Queue C)
  flush_down side across asked q =
      record (if asked.for_write then own_flushed side asked q else freed q) {
        sent = reader_flush (asked.for_write && across.is_open) asked (bottom_across side across)
            ++ reader_flush asked.for_read asked (driver_across side across);
      }

  -- an M_FLUSH that the other driver has sent across
  abbrev pub flush_across : Side → Across → FlushAsked → Queue C → Acted C (Queue C)
  flush_across side across asked q =
      if asked.for_read
      then record (own_flushed side asked q) { sent = reader_flush across.is_open asked (bottom_across side across) }
      else freed q

  -- an M_IOCTL that no one knows is answered with M_IOCNAK, up the own stream
  abbrev pub answered : Spot → Ioc → Queue C → Acted C (Queue C)
  answered here ioc q = record (freed q) { sent = record { to = toward Up here; message = nak_message ioc } ∷ [] }

  -- An M_IOCTL by its header, without which it is freed. One of number 0 tells the other side of a change, and goes across. Any
  -- other one asks: a master's goes to an open slave, and all others are answered here.
  abbrev pub ioctl_put : Side → Across → Spot → Option Ioc → Message C → Queue C → Acted C (Queue C)
  ioctl_put side across here None m q = freed q
  ioctl_put side across here (Some ioc) m q =
      if ioc.number == 0 || (is_master side && across.is_open) then taken_in side across m q else answered here ioc q

  -- a message that comes down
  abbrev pub put_down : Side → Across → Spot → MsgKind → Message C → Queue C → Acted C (Queue C)
  put_down side across here Flush m q = flush_down side across (asked_by m.plain) q
  put_down side across here Ioctl m q = ioctl_put side across here (read_ioc m.plain) m q
  put_down side across here kind m q = if crosses kind then taken_in side across m q else freed q

  -- a message that comes across: an M_FLUSH, as nothing else does
  abbrev pub put_across : Side → Across → MsgKind → Message C → Queue C → Acted C (Queue C)
  put_across side across Flush m q = flush_across side across (asked_by m.plain) q
  put_across side across kind m q = freed q

  -- A message with parts is for the other side, whichever way it comes; any other one is told by its kind.
  abbrev pub driver_put : Side → Across → Spot → Message C → Queue C → Acted C (Queue C)
  driver_put side across here m q = if has_parts m then taken_in side across m q else by here.way
    where
      by : Way → Acted C (Queue C)
      by Down = put_down side across here m.kind m q
      by Up = put_across side across m.kind m q
