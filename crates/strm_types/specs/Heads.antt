-- A stream head, and what it does with a message that comes up to it (STREAMS Programming Guide, "Stream Head" and "Flush Handling";
-- streamio(7I)).
use Rattle.std.specs.Prelude.{ℕ, Bool, true, false, ◌&&◌, ◌==◌, if◌then◌else◌, List, [], ◌∷◌, Option, None, Some, unwrap_or}
use Rattle.std.specs.List.{list_any}
use Rattle.strm_types.specs.declared.flushing.FlushAsked.{FlushAsked}
use Rattle.strm_types.specs.declared.ioctls.Ioc.{Ioc}
use Rattle.strm_types.specs.declared.kinds.MsgKind.{MsgKind}
use Rattle.strm_types.specs.declared.kinds.MsgKind.TheVariants.{Pcproto, Hangup, Flush, Sig, Pcsig, Setopts, Ioctl, Iocack, Iocnak}
use Rattle.strm_types.specs.declared.modes.ControlMode.{ControlMode}
use Rattle.strm_types.specs.declared.modes.ControlMode.TheVariants.{Refuse}
use Rattle.strm_types.specs.declared.modes.Mode.{Mode}
use Rattle.strm_types.specs.declared.modes.Mode.TheVariants.{Read, Control}
use Rattle.strm_types.specs.declared.modes.ReadMode.{ReadMode}
use Rattle.strm_types.specs.declared.modes.ReadMode.TheVariants.{ByteStream}
use Rattle.strm_types.specs.declared.names.Way.TheVariants.{Up, Down}
use Rattle.strm_types.specs.declared.options.Marks.{Marks}
use Rattle.strm_types.specs.declared.options.Options.{Options}
use Rattle.strm_types.specs.declared.rules.Rule.TheVariants.{Flushed, Doubled}
use Rattle.strm_types.specs.declared.slots.Slot.TheVariants.{Free}
use Rattle.strm_types.specs.declared.spots.Note.TheVariants.{Room}
use Rattle.strm_types.specs.declared.spots.Spot.{Spot}
use Rattle.strm_types.specs.Deliver.{Acted, Parcel, toward, Goes}
use Rattle.strm_types.specs.Emptied.{of_data, cells_gone, queue_behind, writer_goes}
use Rattle.strm_types.specs.Flushing.{asked_by, flush_bytes, flush_message}
use Rattle.strm_types.specs.Ioctls.{read_ioc, nak_message}
use Rattle.strm_types.specs.Message.{Message, cells_of, has_parts}
use Rattle.strm_types.specs.Names.{direction_at}
use Rattle.strm_types.specs.Options.{options_in}
use Rattle.strm_types.specs.Queue.{Queue, marked, put_on, new_queue, map_queue}
use Rattle.strm_types.specs.Signals.{signal_in, with_signal}
use Rattle.strm_types.specs.Slots.{slot_answered, PlainSlot}

-- a stream head: what it has for its readers, how they read it, TOSTOP and the foreground process group (0 for none), whether an M_HANGUP
-- came up, as the other end is gone, the signals that came up, and the ioctl that is under way
pub record Head (C : Type 0) : Type 0 where
  pub queue : Queue C
  pub read_mode : ReadMode
  pub control_mode : ControlMode
  pub tostop : Bool
  pub group : ℕ
  pub hung_up : Bool
  pub signals : List ℕ
  pub ioctl : PlainSlot

abbrev pub is_pcproto : MsgKind → Bool
is_pcproto Pcproto = true
is_pcproto _ = false

module _ {C : Type 0} where
  -- a head as it is made: marks 5120 and 1024, RNORM and RPROTNORM, without TOSTOP and without a group
  abbrev pub new_head : Head C
  new_head = record { queue = new_queue 5120 1024; read_mode = ByteStream; control_mode = Refuse; tostop = false; group = 0; hung_up = false; signals = []; ioctl = Free }

  -- the head with one mode set, and the other one as it was
  abbrev pub with_mode : Mode → Head C → Head C
  with_mode (Read mode) h = record h { read_mode = mode }
  with_mode (Control mode) h = record h { control_mode = mode }

  -- the message is freed
  abbrev pub passed_by : Head C → Acted C (Head C)
  passed_by h = record { state = h; notes = []; sent = []; gone = [] }

  -- whether a message is an M_PCPROTO where one stands already: a head has one at most
  abbrev pub is_doubled : Message C → List (Message C) → Bool
  is_doubled m ms = is_pcproto m.kind && list_any (λ x. is_pcproto x.kind) ms

  -- the message waits for the readers, but for a second M_PCPROTO, which goes
  abbrev pub waits_for_readers : Spot → Message C → Head C → Acted C (Head C)
  waits_for_readers here m h =
      if is_doubled m h.queue.messages
      then record (passed_by h) { gone = Goes (direction_at Up here.side) Doubled (cells_of m) ∷ [] }
      else passed_by (record h { queue = put_on m h.queue })

  -- the head's own queue is flushed
  abbrev pub head_flushed : Spot → FlushAsked → Head C → Acted C (Head C)
  head_flushed here asked h =
      let chosen = of_data asked.band in
      record {
        state = record h { queue = queue_behind chosen h.queue };
        notes = if writer_goes chosen h.queue then Room Up ∷ [] else [];
        sent = [];
        gone = Goes (direction_at Up here.side) Flushed (cells_gone chosen h.queue.messages) ∷ [];
      }

  -- an M_FLUSH with FLUSHW alone to the place below, where FLUSHW is asked for
  abbrev pub turned_round : Spot → FlushAsked → List (Parcel C)
  turned_round here asked =
      if asked.for_write then record { to = toward Down here; message = flush_message (flush_bytes (record asked { for_read = false })) } ∷ [] else []

  -- FLUSHR: the own queue. FLUSHW: the M_FLUSH goes down again, without FLUSHR.
  abbrev pub flush_up : Spot → FlushAsked → Head C → Acted C (Head C)
  flush_up here asked h = record (if asked.for_read then head_flushed here asked h else passed_by h) { sent = turned_round here asked }

  -- the queue with the marks that are given
  abbrev pub with_marks_given : Option Marks → Queue C → Queue C
  with_marks_given None q = q
  with_marks_given (Some marks) q = marked marks.high marks.low q

  -- the head with the options that are given
  abbrev pub with_options : Options → Head C → Head C
  with_options options h = record h { read_mode = unwrap_or options.mode h.read_mode; tostop = unwrap_or options.tostop h.tostop; queue = with_marks_given options.marks h.queue }

  -- An M_IOCTL that comes up wants an answer unless its number is 0. Nobody above knows its command, so an M_IOCNAK goes down.
  abbrev pub nak_down : Spot → Option Ioc → List (Parcel C)
  nak_down here None = []
  nak_down here (Some ioc) = if ioc.number == 0 then [] else record { to = toward Down here; message = nak_message ioc } ∷ []

  -- A message without parts, by its kind: an M_FLUSH is obeyed; an M_HANGUP says that the other end is gone; M_SIG and M_PCSIG
  -- leave a signal; M_SETOPTS sets options; M_IOCACK and M_IOCNAK answer the ioctl under way; an M_IOCTL is answered; and all
  -- others are freed.
  abbrev pub obeyed : Spot → MsgKind → List ℕ → Head C → Acted C (Head C)
  obeyed here Flush bytes h = flush_up here (asked_by bytes) h
  obeyed here Hangup bytes h = passed_by (record h { hung_up = true })
  obeyed here Sig bytes h = passed_by (record h { signals = with_signal (signal_in bytes) h.signals })
  obeyed here Pcsig bytes h = passed_by (record h { signals = with_signal (signal_in bytes) h.signals })
  obeyed here Setopts bytes h = passed_by (with_options (options_in bytes) h)
  obeyed here Iocack bytes h = passed_by (record h { ioctl = slot_answered true bytes h.ioctl })
  obeyed here Iocnak bytes h = passed_by (record h { ioctl = slot_answered false bytes h.ioctl })
  obeyed here Ioctl bytes h = record (passed_by h) { sent = nak_down here (read_ioc bytes) }
  obeyed here kind bytes h = passed_by h

  abbrev pub head_put : Spot → Message C → Head C → Acted C (Head C)
  head_put here m h = if has_parts m then waits_for_readers here m h else obeyed here m.kind m.plain h

-- the same state of other cells, as where their origins are forgotten
abbrev pub map_head : {C D : Type 0} → (C → D) → Head C → Head D
map_head f h = record {
  queue = map_queue f h.queue;
  read_mode = h.read_mode;
  control_mode = h.control_mode;
  tostop = h.tostop;
  group = h.group;
  hung_up = h.hung_up;
  signals = h.signals;
  ioctl = h.ioctl;
}
