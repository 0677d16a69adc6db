-- The ioctl under way whose M_IOCTL goes with a module that is popped: nobody will answer it any more (streamio(7I): I_POP, I_STR).
use Rattle.std.specs.Prelude.{ℕ, Bool, false, ◌&&◌, ◌==◌, if◌then◌else◌, List, [], Option, None, Some}
use Rattle.std.specs.List.{list_any}
use Rattle.strm_types.specs.declared.ioctls.Ioc.{Ioc}
use Rattle.strm_types.specs.declared.refusals.Refusal.TheVariants.{Einval}
use Rattle.strm_types.specs.declared.slots.Slot.{Slot}
use Rattle.strm_types.specs.declared.slots.Slot.TheVariants.{Waiting, Answered}
use Rattle.strm_types.specs.Commands.{is_asked}
use Rattle.strm_types.specs.Ioctls.{read_ioc}
use Rattle.strm_types.specs.Message.{Message}
use Rattle.strm_types.specs.Numbers.{number_of}
use Rattle.strm_types.specs.Slots.{PlainSlot}

-- whether a header is of an ioctl of this number
abbrev pub has_number : ℕ → Option Ioc → Bool
has_number number None = false
has_number number (Some ioc) = ioc.number == number

-- the number of the ioctl that waits for its answer, where one does: its M_IOCTL is sought among what goes
abbrev pub number_sought : {A : Type 0} → Slot A → Option ℕ
number_sought (Waiting number command) = Some number
number_sought _ = None

module _ {C : Type 0} where
  -- whether a message is the M_IOCTL of a number, and whether it stands among these
  abbrev pub is_ioctl_of : ℕ → Message C → Bool
  is_ioctl_of number m = is_asked m && has_number number (read_ioc m.plain)

  abbrev pub has_ioctl : ℕ → List (Message C) → Bool
  has_ioctl number ms = list_any (is_ioctl_of number) ms

  -- whether the M_IOCTL that is sought stands among these, where one is sought
  abbrev pub is_met : Option ℕ → List (Message C) → Bool
  is_met None ms = false
  is_met (Some number) ms = has_ioctl number ms

  -- An ioctl that waits for its answer ends as one that was refused with EINVAL, where its M_IOCTL is among the messages that go.
  abbrev pub slot_dropped : List (Message C) → PlainSlot → PlainSlot
  slot_dropped ms (Waiting number command) = if has_ioctl number ms then Answered number command false (number_of Einval) [] else Waiting number command
  slot_dropped ms slot = slot
