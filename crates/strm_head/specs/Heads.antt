-- What a head beside its store stands for, and what a put at it hands back.
use Rattle.std.specs.Prelude.{ℕ, Bool, if◌then◌else◌, List, [], ◌∷◌, Option, None, Some}
use Rattle.arrayvec.specs.ArrayVec.{ArrayVec}
use Rattle.strm_types.specs.declared.names.Way.TheVariants as ways
use Rattle.strm_head.specs.Prelude.{Spot, Parcel, toward, flush_bytes, flush_message, Message, PlainSlot, StoreValue, queue_in}
use Rattle.strm_types.specs.declared.slots.Slot.{Slot}
use Rattle.strm_types.specs.declared.spots.Note.{Note}
use Rattle.strm_types.specs.declared.spots.Note.TheVariants.{Room}
use Rattle.strm_types.specs.Ioctls.{nak_message}
use Rattle.strm_types.specs.Slots.{map_slot}
use Rattle.strm_types.specs.Heads as state
use Rattle.strm_head.specs.declared.head.Head.{Head}
use Rattle.strm_head.specs.declared.putting.Down.{Down}
use Rattle.strm_head.specs.declared.putting.Down.TheVariants.{Flush, Nak}

-- the slot with its bytes
abbrev pub plain_slot : Slot (ArrayVec ℕ) → PlainSlot
plain_slot slot = map_slot (λ b. b.items) slot

-- the plain head
abbrev pub head_in : StoreValue → Head → state.Head ℕ
head_in s h = record {
  queue = queue_in s h.queue;
  read_mode = h.read_mode;
  control_mode = h.control_mode;
  tostop = h.tostop;
  group = h.group;
  hung_up = h.hung_up;
  signals = h.signals;
  ioctl = plain_slot h.ioctl;
}

-- what becomes of the enabled list where a waiting writer is let go
abbrev pub notes_of : Bool → List Note
notes_of lets_go = if lets_go then Room ways.Up ∷ [] else []

-- what goes down: an M_FLUSH, or the M_IOCNAK that answers an M_IOCTL
abbrev pub down_message : Down → Message ℕ
down_message (Flush asked) = flush_message (flush_bytes asked)
down_message (Nak ioc) = nak_message ioc

-- it goes to the place below, if there is one
abbrev pub sent_down : Spot → Option Down → List (Parcel ℕ)
sent_down here None = []
sent_down here (Some down) = record { to = toward ways.Down here; message = down_message down } ∷ []
