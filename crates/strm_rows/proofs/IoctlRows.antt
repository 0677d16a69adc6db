-- What answers an ioctl at a stream head, and what its caller is told, as worked out by hand from streamio(7I) (I_STR) and the
-- STREAMS Programming Guide ("Stream Head": M_IOCTL, M_IOCACK, M_IOCNAK).
use Rattle.strm_rows.proofs.Prelude.{ℕ, ◌≡◌, true, false, List, [], ◌∷◌, ◌++◌, length, map, take, refl, replicate, None, Some, Done, Bytes, Pending}
use Rattle.strm_rows.proofs.Prelude.{Nak, TCSETSW, TIOCGWINSZ, TIOCGPGRP, TIOCSPGRP, MsgKind, Side, Slave, Way, Up, Down, Refusal, Einval, Eagain}
use Rattle.strm_rows.proofs.Prelude.{Enxio, Ebadmsg, Enosr, Erange, JournalFull, NoMinor, NoMemory, StillShared, Eio, Free, Waiting, Answered, Spot}
use Rattle.strm_rows.proofs.Prelude.{Acted, head_put, Head, number_of, PlainSlot, flow, head_with, header, proto, queue, without_parts}
use Rattle.strm_types.specs.declared.ioctls.TheConstants.{TCGETS, TCSETS, TCSETSF, TIOCSWINSZ, TIOCSIGNAL}
use Rattle.strm_types.specs.declared.kinds.MsgKind.TheVariants as kinds
use Rattle.strm_types.specs.Costs.{turns_round}
use Rattle.strm_types.specs.Ioctls.{asking, ioctl_message, nak_message}
use Rattle.strm_types.specs.Numbers.{refusal_numbered}
use Rattle.strm_types.specs.Slots.{answer_bytes, is_free, map_slot, result_refusal, slot_answered, slot_behind, told_of}

-- the numbers of commands

pub commands-have-numbers : TCGETS ∷ TCSETS ∷ TCSETSW ∷ TCSETSF ∷ TIOCGWINSZ ∷ TIOCSWINSZ ∷ TIOCSIGNAL ∷ TIOCGPGRP ∷ TIOCSPGRP ∷ [] ≡ 1 ∷ 2 ∷ 3 ∷ 4 ∷ 5 ∷ 6 ∷ 7 ∷ 8 ∷ 9 ∷ []
commands-have-numbers = refl

-- an M_IOCTL has what is sent behind its header; an M_IOCNAK has the command and the number, EINVAL, and no result
pub ioctls-are-made : map (λ body. ioctl_message {C = ℕ} (asking 5 7) body) ([] ∷ (200 ∷ 201 ∷ []) ∷ []) ≡ without_parts kinds.Ioctl (header 5 7 0) ∷ without_parts kinds.Ioctl (header 5 7 0 ++ 200 ∷ 201 ∷ []) ∷ []
ioctls-are-made = refl

pub naks-are-made : nak_message {C = ℕ} (record { command = 5; number = 7; error = 9; result = 3 }) ≡ without_parts kinds.Iocnak (header 5 7 1)
naks-are-made = refl

-- refusals by their numbers, of which those that none has are EINVAL

pub refusals-have-numbers : map refusal_numbered (0 ∷ 1 ∷ 2 ∷ 3 ∷ 4 ∷ 5 ∷ 6 ∷ 7 ∷ 8 ∷ 9 ∷ 10 ∷ 11 ∷ 12 ∷ 255 ∷ [])
    ≡ Einval ∷ Einval ∷ Eagain ∷ Enxio ∷ Ebadmsg ∷ Enosr ∷ Erange ∷ JournalFull ∷ NoMinor ∷ NoMemory ∷ StillShared ∷ Eio ∷ Einval ∷ Einval ∷ []
refusals-have-numbers = refl

pub refusals-read-back : (refusal : Refusal) → refusal_numbered (number_of refusal) ≡ refusal
refusals-read-back Einval = refl
refusals-read-back Eagain = refl
refusals-read-back Enxio = refl
refusals-read-back Ebadmsg = refl
refusals-read-back Enosr = refl
refusals-read-back Erange = refl
refusals-read-back JournalFull = refl
refusals-read-back NoMinor = refl
refusals-read-back NoMemory = refl
refusals-read-back StillShared = refl
refusals-read-back Eio = refl

-- The ioctl under way: number 7, command 5.

abbrev waiting : PlainSlot
waiting = Waiting 7 5

abbrev acked : List ℕ → PlainSlot
acked bytes = Answered 7 5 true 0 bytes

abbrev nacked : ℕ → List ℕ → PlainSlot
nacked error bytes = Answered 7 5 false error bytes

-- free, waiting, and answered in both ways
abbrev slots : List PlainSlot
slots = Free ∷ waiting ∷ acked (200 ∷ []) ∷ nacked 3 (201 ∷ []) ∷ []

-- Its own number alone answers it, whatever command the answer names. The error is kept as it comes, and the bytes behind the header.
pub acks-answer : map (λ bytes. slot_answered true bytes waiting) ((header 5 7 0 ++ 200 ∷ 201 ∷ []) ∷ header 1 7 9 ∷ header 5 8 0 ∷ header 7 5 0 ∷ header 5 0 0 ∷ take 15 (header 5 7 0) ∷ [] ∷ [])
    ≡ acked (200 ∷ 201 ∷ []) ∷ Answered 7 5 true 9 [] ∷ waiting ∷ waiting ∷ waiting ∷ waiting ∷ waiting ∷ []
acks-answer = refl

pub naks-answer : map (λ bytes. slot_answered false bytes waiting) ((header 5 7 1 ++ 200 ∷ []) ∷ header 1 7 3 ∷ header 5 7 0 ∷ header 5 7 4294967295 ∷ header 5 8 3 ∷ take 15 (header 5 7 3) ∷ [])
    ≡ nacked 1 (200 ∷ []) ∷ nacked 3 [] ∷ nacked 0 [] ∷ nacked 4294967295 [] ∷ waiting ∷ waiting ∷ []
naks-answer = refl

-- where none waits an answer is nobody's
pub answers-of-nobody : map (λ slot. slot_answered true (header 5 7 0) slot ∷ slot_answered false (header 5 7 1) slot ∷ []) (Free ∷ acked (200 ∷ []) ∷ nacked 3 [] ∷ [])
    ≡ (Free ∷ Free ∷ []) ∷ (acked (200 ∷ []) ∷ acked (200 ∷ []) ∷ []) ∷ (nacked 3 [] ∷ nacked 3 [] ∷ []) ∷ []
answers-of-nobody = refl

-- 256 bytes of an answer at most
pub answers-are-cut : map (λ is_ack. map (λ n. length (answer_bytes (slot_answered is_ack (header 5 7 0 ++ replicate n 97) waiting))) (255 ∷ 256 ∷ 257 ∷ [])) (true ∷ false ∷ []) ≡ replicate 2 (255 ∷ 256 ∷ 256 ∷ [])
answers-are-cut = refl

-- what the caller is told: the number, the answer, or, where a command only sets something, that it is done
pub callers-are-told : map told_of slots ≡ Done ∷ Pending 7 ∷ Bytes (200 ∷ []) ∷ Nak Enxio ∷ []
callers-are-told = refl

-- of an M_IOCNAK its refusal alone: the error's, and EINVAL where no refusal has that number
pub refusals-are-told : map told_of (nacked 2 (200 ∷ []) ∷ nacked 3 [] ∷ nacked 10 [] ∷ nacked 0 [] ∷ nacked 12 [] ∷ nacked 4294967295 [] ∷ []) ≡ Nak Eagain ∷ Nak Enxio ∷ Nak StillShared ∷ replicate 3 (Nak Einval)
refusals-are-told = refl

pub commands-that-give-something : map (λ command. told_of (Answered 7 command true 0 (200 ∷ []))) (TCGETS ∷ TCSETS ∷ TCSETSW ∷ TCSETSF ∷ TIOCGWINSZ ∷ TIOCSWINSZ ∷ TIOCSIGNAL ∷ 99 ∷ [])
    ≡ Bytes (200 ∷ []) ∷ Done ∷ Done ∷ Done ∷ Bytes (200 ∷ []) ∷ Done ∷ Done ∷ Bytes (200 ∷ []) ∷ []
commands-that-give-something = refl

-- and behind that an answer is gone, and what waits waits on
pub answers-are-given-once : map slot_behind slots ≡ Free ∷ waiting ∷ Free ∷ Free ∷ []
answers-are-given-once = refl

pub free-slots : map (λ (slot : PlainSlot). is_free slot) slots ≡ true ∷ false ∷ false ∷ false ∷ []
free-slots = refl

pub bytes-of-slots : map answer_bytes slots ≡ [] ∷ [] ∷ (200 ∷ []) ∷ (201 ∷ []) ∷ []
bytes-of-slots = refl

pub slots-over-other-bytes : map (λ (slot : PlainSlot). map_slot (λ bytes. length bytes) slot) slots ≡ Free ∷ Waiting 7 5 ∷ Answered 7 5 true 0 1 ∷ Answered 7 5 false 3 1 ∷ []
slots-over-other-bytes = refl

-- the answer of a number: EINVAL where that isn't under way, EAGAIN while it waits
pub answers-that-are-asked-for : map (λ number. map (λ (slot : PlainSlot). result_refusal number slot) slots) (7 ∷ 8 ∷ 5 ∷ []) ≡ (Some Einval ∷ Some Eagain ∷ None ∷ None ∷ []) ∷ replicate 4 (Some Einval) ∷ replicate 4 (Some Einval) ∷ []
answers-that-are-asked-for = refl

-- At a head, the slave's, that has an M_PROTO, a signal and this ioctl, and is hung up.

abbrev spot : Side → ℕ → Way → Spot
spot side at way = record { side = side; at = at; way = way }

abbrev head : PlainSlot → Head ℕ
head slot = record (head_with (queue (proto ∷ []) (flow 9 1 true ∷ [])) true) { signals = 2 ∷ []; ioctl = slot }

abbrev put : MsgKind → List ℕ → Acted ℕ (Head ℕ)
put kind bytes = head_put (spot Slave 0 Up) (without_parts kind bytes) (head waiting)

abbrev leaves : PlainSlot → Acted ℕ (Head ℕ)
leaves slot = record { state = head slot; notes = []; sent = []; gone = [] }

pub answers-come-up : put kinds.Iocack (header 5 7 0 ++ 200 ∷ []) ∷ put kinds.Iocnak (header 5 7 3 ++ 200 ∷ []) ∷ [] ≡ leaves (acked (200 ∷ [])) ∷ leaves (nacked 3 (200 ∷ [])) ∷ []
answers-come-up = refl

pub answers-of-others-come-up : map (λ bytes. put kinds.Iocack bytes ∷ put kinds.Iocnak bytes ∷ []) (header 5 8 1 ∷ take 15 (header 5 7 1) ∷ []) ≡ replicate 2 (leaves waiting ∷ leaves waiting ∷ [])
answers-of-others-come-up = refl

-- an M_IOCTL gets an M_IOCNAK, unless its number is 0 or its header isn't whole
pub ioctls-come-up : map (λ bytes. put kinds.Ioctl bytes) ((header 5 7 0 ++ 200 ∷ []) ∷ header 7 0 0 ∷ take 15 (header 5 7 0) ∷ [] ∷ [])
    ≡ record (leaves waiting) { sent = record { to = spot Slave 1 Down; message = without_parts kinds.Iocnak (header 5 7 1) } ∷ [] } ∷ leaves waiting ∷ leaves waiting ∷ leaves waiting ∷ []
ioctls-come-up = refl

-- what is turned round there: an M_FLUSH with FLUSHW, and any M_IOCTL
pub kinds-that-turn-round : map (λ kind. turns_round kind (2 ∷ [])) (kinds.Flush ∷ kinds.Ioctl ∷ kinds.Data ∷ kinds.Proto ∷ kinds.Pcproto ∷ kinds.Sig ∷ kinds.Pcsig ∷ kinds.Ctl ∷ kinds.Setopts ∷ kinds.Iocack ∷ kinds.Iocnak ∷ kinds.Stop ∷ kinds.Start ∷ kinds.Hangup ∷ [])
    ≡ true ∷ true ∷ replicate 12 false
kinds-that-turn-round = refl

pub bytes-that-turn-round : map (λ kind. map (turns_round kind) ([] ∷ (1 ∷ []) ∷ (3 ∷ []) ∷ (6 ∷ 2 ∷ []) ∷ [])) (kinds.Flush ∷ kinds.Ioctl ∷ []) ≡ (false ∷ false ∷ true ∷ true ∷ []) ∷ (true ∷ true ∷ true ∷ true ∷ []) ∷ []
bytes-that-turn-round = refl
