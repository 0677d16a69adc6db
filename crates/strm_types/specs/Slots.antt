-- The ioctl that is under way on a stream: what answers it, and what its caller is told (streamio(7I): I_STR).
use Rattle.std.specs.Prelude.{ℕ, Bool, true, false, ◌||◌, ◌==◌, if◌then◌else◌, List, [], take, drop, Option, None, Some}
use Rattle.strm_types.specs.declared.answers.Answer.{Answer}
use Rattle.strm_types.specs.declared.answers.Answer.TheVariants.{Done, Bytes, Pending, Nak}
use Rattle.strm_types.specs.declared.ioctls.Ioc.{Ioc}
use Rattle.strm_types.specs.declared.ioctls.TheConstants.{TCSETS, TCSETSW, TCSETSF, TIOCSWINSZ, TIOCSIGNAL}
use Rattle.strm_types.specs.declared.limits.TheConstants.{IOCTL_MAX}
use Rattle.strm_types.specs.declared.refusals.Refusal.{Refusal}
use Rattle.strm_types.specs.declared.refusals.Refusal.TheVariants.{Einval, Eagain}
use Rattle.strm_types.specs.declared.slots.Slot.{Slot}
use Rattle.strm_types.specs.declared.slots.Slot.TheVariants.{Free, Waiting, Answered}
use Rattle.strm_types.specs.Ioctls.{read_ioc}
use Rattle.strm_types.specs.Numbers.{refusal_numbered}

-- the slot over other things that stand for the bytes of its answer
abbrev pub map_slot : {A B : Type 0} → (A → B) → Slot A → Slot B
map_slot f Free = Free
map_slot f (Waiting number command) = Waiting number command
map_slot f (Answered number command acked error body) = Answered number command acked error (f body)

-- a slot with its bytes
abbrev pub PlainSlot : Type 0
PlainSlot = Slot (List ℕ)

abbrev pub is_free : {A : Type 0} → Slot A → Bool
is_free Free = true
is_free _ = false

-- the bytes of an answer that wasn't given yet
abbrev pub answer_bytes : PlainSlot → List ℕ
answer_bytes (Answered number command acked error body) = body
answer_bytes _ = []

-- what stands behind the header of an answer, 256 bytes at most
abbrev pub answer_body : List ℕ → List ℕ
answer_body bytes = take IOCTL_MAX (drop 16 bytes)

-- the answer of an ioctl, M_IOCACK or M_IOCNAK, with the error that its header has
abbrev pub with_answer : Bool → ℕ → ℕ → Ioc → List ℕ → PlainSlot
with_answer is_ack number command ioc bytes = Answered number command is_ack ioc.error (answer_body bytes)

-- It is that of the ioctl which waits, where it has its number. Any other one is nobody's.
abbrev pub slot_told : Bool → Option Ioc → List ℕ → PlainSlot → PlainSlot
slot_told is_ack (Some ioc) bytes (Waiting number command) =
    if ioc.number == number then with_answer is_ack number command ioc bytes else Waiting number command
slot_told is_ack _ bytes slot = slot

-- an M_IOCACK, or else an M_IOCNAK, of these bytes comes up
abbrev pub slot_answered : Bool → List ℕ → PlainSlot → PlainSlot
slot_answered is_ack bytes slot = slot_told is_ack (read_ioc bytes) bytes slot

-- the commands whose answer gives nothing but that they are done
abbrev pub gives_nothing : ℕ → Bool
gives_nothing command =
    command == TCSETS || command == TCSETSW || command == TCSETSF || command == TIOCSWINSZ || command == TIOCSIGNAL

-- What the caller is told: the answer, or the number while it waits. The error of an M_IOCNAK is that of a refusal, or else EINVAL.
abbrev pub told_of : PlainSlot → Answer (List ℕ)
told_of Free = Done
told_of (Waiting number command) = Pending number
told_of (Answered number command true error body) = if gives_nothing command then Done else Bytes body
told_of (Answered number command false error body) = Nak (refusal_numbered error)

-- the slot behind that: an answer is given once
abbrev pub slot_behind : PlainSlot → PlainSlot
slot_behind (Waiting number command) = Waiting number command
slot_behind _ = Free

-- why the answer of the ioctl of a number isn't given, where there is one of this number
abbrev pub unless_same : ℕ → ℕ → Option Refusal → Option Refusal
unless_same number asked same = if number == asked then same else Some Einval

-- what a call for the answer of the ioctl of a number is refused for: EINVAL where it isn't under way, EAGAIN while it waits
abbrev pub result_refusal : {A : Type 0} → ℕ → Slot A → Option Refusal
result_refusal asked Free = Some Einval
result_refusal asked (Waiting number command) = unless_same number asked (Some Eagain)
result_refusal asked (Answered number command acked error body) = unless_same number asked None
