-- The header of an ioctl message (streamio(7I): I_STR; sys/stream.h: struct iocblk): four numbers of 32 bits, the most
-- significant byte first.
use Rattle.std.specs.Prelude.{ℕ, nat_le, if◌then◌else◌, List, ◌++◌, length, take, drop, Option, None, Some}
use Rattle.std.specs.Int.{w32, from_be_bytes, to_be_bytes}
use Rattle.strm_types.specs.declared.ioctls.Ioc.{Ioc}
use Rattle.strm_types.specs.declared.kinds.MsgKind.TheVariants.{Ioctl, Iocnak}
use Rattle.strm_types.specs.declared.refusals.Refusal.TheVariants.{Einval}
use Rattle.strm_types.specs.Message.{Message}
use Rattle.strm_types.specs.Numbers.{number_of}

-- the bytes of a number, and the number that stands so many bytes on
abbrev pub word_bytes : ℕ → List ℕ
word_bytes n = to_be_bytes w32 n

abbrev pub word_at : ℕ → List ℕ → ℕ
word_at at bytes = from_be_bytes w32 (take 4 (drop at bytes))

-- the 16 bytes of a header
abbrev pub ioc_bytes : Ioc → List ℕ
ioc_bytes ioc = word_bytes ioc.command ++ (word_bytes ioc.number ++ (word_bytes ioc.error ++ word_bytes ioc.result))

-- the header that bytes begin with; none where there are fewer than 16
abbrev pub read_ioc : List ℕ → Option Ioc
read_ioc bytes =
    if nat_le 16 (length bytes)
    then Some (record { command = word_at 0 bytes; number = word_at 4 bytes; error = word_at 8 bytes; result = word_at 12 bytes })
    else None

-- the header of a command that gets a number
abbrev pub asking : ℕ → ℕ → Ioc
asking command number = record { command = command; number = number; error = 0; result = 0 }

-- an M_IOCTL: its header, and then what is sent with it
abbrev pub ioctl_message : {C : Type 0} → Ioc → List ℕ → Message C
ioctl_message ioc body = record { kind = Ioctl; band = 0; control = None; body = None; plain = ioc_bytes ioc ++ body }

-- the header of the answer that nobody knows a command
abbrev pub refused : Ioc → Ioc
refused ioc = record ioc { error = number_of Einval; result = 0 }

-- that answer: an M_IOCNAK, which has no payload
abbrev pub nak_message : {C : Type 0} → Ioc → Message C
nak_message ioc = record { kind = Iocnak; band = 0; control = None; body = None; plain = ioc_bytes (refused ioc) }
