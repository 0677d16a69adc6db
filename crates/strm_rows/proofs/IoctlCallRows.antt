-- Ioctls as calls of a pair, from the call to its answer, as worked out by hand from streamio(7I) (I_STR).
use Rattle.strm_rows.proofs.Prelude.{ℕ, ◌≡◌, Bool, true, false, List, [], ◌∷◌, ◌++◌, length, map, refl, replicate, Option, None, Some, Done, Bytes}
use Rattle.strm_rows.proofs.Prelude.{Pending, Nak, Moved, Book, Called, Turned, Caller, TIOCGWINSZ, Config, Openness, Never, Open, Closed, QueueName}
use Rattle.strm_rows.proofs.Prelude.{Side, Master, Slave, Refusal, Einval, Eagain, Enxio, Enosr, Erange, JournalFull, Free, Waiting, Answered, no_own}
use Rattle.strm_rows.proofs.Prelude.{new_book, Request, content_of, map_answer, map_event, payload_of, called, plain, carried, crosses, caller_of}
use Rattle.strm_rows.proofs.Prelude.{PlainEntry, content_max, entries_in, room_of, came, gone, Message, band_of, cells_of, is_high_priority, is_held}
use Rattle.strm_rows.proofs.Prelude.{rank_of, size_of, driver_of, blocks_asked, blocks_taken, refused, refused_at_once, refused_by_state, PlainSlot}
use Rattle.strm_rows.proofs.Prelude.{State, Stream, with_book, IsLegal, replay, turned, whole_turn, head_with, header, ordinary, queue, without_parts}
use Rattle.strm_rows.proofs.Prelude.{MasterToSlave}
use Rattle.strm_types.specs.declared.events.Event.TheVariants.{Ioctl, IoctlResult}
use Rattle.strm_types.specs.declared.kinds.MsgKind.TheVariants as kinds

-- In a pair, whose sides have these ioctls under way, and whose drivers these messages.

abbrev end : Openness → PlainSlot → List (Message ℕ) → Stream ℕ
end opened slot driver = record { opened = opened; head = record (head_with (queue [] []) false) { ioctl = slot }; modules = []; driver = record { queue = queue driver [] } }

abbrev pair : Stream ℕ → Stream ℕ → List QueueName → ℕ → State ℕ
pair master slave enabled next = record {
  ends = record { master = master; slave = slave };
  locked = false;
  enabled = enabled;
  next_ioctl = next;
  books = record { master = new_book; slave = new_book };
}

abbrev none : Stream ℕ
none = end Open Free []

-- free, waiting, and answered in both ways
abbrev slots : List PlainSlot
slots = Free ∷ Waiting 7 5 ∷ Answered 7 5 true 0 (200 ∷ []) ∷ Answered 7 5 false 3 [] ∷ []

abbrev caller : Side → Caller
caller side = caller_of side

abbrev asks : Request
asks = Ioctl TIOCGWINSZ (200 ∷ [])

-- Nobody below the slave knows the command, so its driver answers in the call. The number is used all the same.
pub slave-is-answered-at-once : called no_own plain (caller Slave) asks (pair none none [] 1) ≡ record { answer = Nak Einval; state = pair none none [] 2; came = []; gone = [] }
unfolding carried
slave-is-answered-at-once = refl

-- nor is there anybody where the slave isn't open
pub master-is-answered-at-once : map (λ opened. called no_own plain (caller Master) asks (pair none (end opened Free []) [] 1)) (Never ∷ Closed ∷ [])
    ≡ record { answer = Nak Einval; state = pair none (end Never Free []) [] 2; came = []; gone = [] } ∷ record { answer = Nak Einval; state = pair none (end Closed Free []) [] 2; came = []; gone = [] } ∷ []
unfolding carried
master-is-answered-at-once = refl

-- else it waits on the master's driver, behind data of band 0, and the driver is enabled
pub master-waits : map (λ ms. called no_own plain (caller Master) asks (pair (end Open Free ms) none [] 3)) ([] ∷ (ordinary (7 ∷ []) ∷ []) ∷ [])
    ≡ record { answer = Pending 3; state = pair (end Open (Waiting 3 5) (without_parts kinds.Ioctl (header 5 3 0 ++ 200 ∷ []) ∷ [])) none (driver_of Master ∷ []) 4; came = []; gone = [] }
    ∷ record { answer = Pending 3; state = pair (end Open (Waiting 3 5) (ordinary (7 ∷ []) ∷ without_parts kinds.Ioctl (header 5 3 0 ++ 200 ∷ []) ∷ [])) none (driver_of Master ∷ []) 4; came = []; gone = [] } ∷ []
unfolding carried rank_of band_of is_high_priority
master-waits = refl

-- its turn: the slave's head sends an M_IOCNAK down, which the slave's driver has for the master, before its data
abbrev asked : List (Message ℕ) → State ℕ
asked ms = pair (end Open (Waiting 1 5) (without_parts kinds.Ioctl (header 5 1 0 ++ 200 ∷ []) ∷ [])) (end Open Free ms) (driver_of Master ∷ []) 2

abbrev answered : List (Message ℕ) → State ℕ
answered ms = pair (end Open (Waiting 1 5) []) (end Open Free (without_parts kinds.Iocnak (header 5 1 1) ∷ ms)) (driver_of Slave ∷ []) 2

pub ioctl-goes-across : map (λ ms. turned no_own plain (driver_of Master) (Moved 17) (asked ms)) ([] ∷ (ordinary (7 ∷ []) ∷ []) ∷ []) ≡ record { turn = Moved 17; state = answered []; gone = [] } ∷ record { turn = Moved 17; state = answered (ordinary (7 ∷ []) ∷ []); gone = [] } ∷ []
unfolding carried crosses is_held rank_of band_of size_of cells_of is_high_priority
ioctl-goes-across = refl

-- and that one's
pub answer-goes-back : turned no_own plain (driver_of Slave) (Moved 16) (answered []) ≡ record { turn = Moved 16; state = pair (end Open (Answered 1 5 false 1 []) []) none [] 2; gone = [] }
unfolding carried crosses is_held rank_of band_of size_of cells_of is_high_priority
answer-goes-back = refl

pub whole-turns-of-ioctls : whole_turn (driver_of Master) (asked []) ∷ whole_turn (driver_of Slave) (answered []) ∷ [] ≡ Moved 17 ∷ Moved 16 ∷ []
unfolding size_of cells_of
whole-turns-of-ioctls = refl

-- the answer is given, and the other side's ioctl stays
abbrev both : PlainSlot → State ℕ
both slot = pair (end Open slot []) (end Open (Answered 2 1 true 0 (9 ∷ [])) []) [] 3

pub answer-is-told : map (λ slot. called no_own plain (caller Master) (IoctlResult 1) (both slot)) (Answered 1 5 true 0 (200 ∷ []) ∷ Answered 1 6 true 0 (200 ∷ []) ∷ Answered 1 5 false 3 [] ∷ [])
    ≡ record { answer = Bytes (200 ∷ []); state = both Free; came = []; gone = [] } ∷ record { answer = Done; state = both Free; came = []; gone = [] } ∷ record { answer = Nak Enxio; state = both Free; came = []; gone = [] } ∷ []
answer-is-told = refl

-- From the call to its answer: `ioctl m TIOCGWINSZ`, two turns, `poll m 1`, and then `ioctl s TIOCGWINSZ`. A second ioctl finds the
-- first one under way, and the slave's is no more when it was answered.

abbrev from_call : List PlainEntry
from_call = Called (caller Master) (Ioctl TIOCGWINSZ []) (Pending 1) ∷ []

abbrev to_answer : List PlainEntry
to_answer =
    Turned (driver_of Master) (Moved 16)
    ∷ Turned (driver_of Slave) (Moved 16)
    ∷ Called (caller Master) (IoctlResult 1) (Nak Einval)
    ∷ Called (caller Slave) (Ioctl TIOCGWINSZ []) (Nak Einval)
    ∷ []

abbrev begun : State ℕ
begun = pair (end Open (Waiting 1 5) (without_parts kinds.Ioctl (header 5 1 0) ∷ [])) none (driver_of Master ∷ []) 2

pub call-begins : IsLegal no_own plain (pair none none [] 1) from_call
unfolding carried crosses is_held rank_of band_of size_of cells_of is_high_priority
call-begins = (record { allowed = refl; answered = refl; leads = refl }, tt)

pub call-leads-there : replay no_own plain (pair none none [] 1) from_call ≡ begun
unfolding carried crosses is_held rank_of band_of size_of cells_of is_high_priority
call-leads-there = refl

pub second-call-waits : refused_by_state no_own begun (caller Master) (Ioctl TIOCGWINSZ []) ≡ Some Eagain
second-call-waits = refl

pub answer-comes : IsLegal no_own plain begun to_answer
unfolding carried crosses is_held rank_of band_of size_of cells_of is_high_priority
answer-comes = (
  record { enabled = refl; in_range = refl; answered = refl; leads = refl },
  (
    record { enabled = refl; in_range = refl; answered = refl; leads = refl },
    (
      record { allowed = refl; answered = refl; leads = refl },
      (record { allowed = refl; answered = refl; leads = refl }, tt),
    ),
  ),
)

pub answer-leads-there : replay no_own plain begun to_answer ≡ pair none none [] 3
unfolding carried crosses is_held rank_of band_of size_of cells_of is_high_priority
answer-leads-there = refl

pub no-answer-is-left : refused_by_state no_own (pair none none [] 3) (caller Slave) (IoctlResult 1) ≡ Some Einval
no-answer-is-left = refl

-- What refuses them. A side that isn't open or is hung up, then the size and the number, then the books; and behind a full journal
-- and too few blocks one that is under way.

abbrev refuses : Openness → Bool → ℕ → Book → Request → Option Refusal
refuses opened hung_up next book x = refused_at_once (with_book MasterToSlave book (pair none (record none { opened = opened; head = head_with (queue [] []) hung_up }) [] next)) (caller Slave) x

abbrev sized : ℕ → Request
sized n = Ioctl 99 (replicate n 97)

pub ioctls-of-256-bytes : map (λ n. refuses Open false 1 new_book (sized n)) (0 ∷ 256 ∷ 257 ∷ []) ≡ None ∷ None ∷ Some Erange ∷ []
ioctls-of-256-bytes = refl

pub numbers-end : map (λ next. refuses Open false next new_book asks) (4294967294 ∷ 4294967295 ∷ []) ≡ None ∷ Some Erange ∷ []
numbers-end = refl

abbrev full : Book
full = record { written = 0; made = 4611686018427387904 }

pub ioctls-want-room-in-the-books : map (refuses Open false 1 full) (asks ∷ IoctlResult 1 ∷ []) ≡ Some Erange ∷ None ∷ []
ioctls-want-room-in-the-books = refl

-- ENXIO before ERANGE; an answer is given behind a hang-up too
pub nothing-is-asked-of-a-side-that-is-hung-up : map (λ next. map (refuses Open true next full) (sized 0 ∷ sized 257 ∷ IoctlResult 1 ∷ [])) (1 ∷ 4294967295 ∷ []) ≡ replicate 2 (Some Enxio ∷ Some Enxio ∷ None ∷ [])
nothing-is-asked-of-a-side-that-is-hung-up = refl

pub nothing-is-asked-of-a-closed-side : map (λ opened. map (refuses opened false 4294967295 full) (sized 0 ∷ sized 257 ∷ IoctlResult 1 ∷ [])) (Never ∷ Closed ∷ []) ≡ replicate 2 (replicate 3 (Some Enxio))
nothing-is-asked-of-a-closed-side = refl

pub one-ioctl-at-a-time : map (λ slot. refused_by_state no_own (pair (end Open slot []) none [] 9) (caller Master) asks) slots ≡ None ∷ Some Eagain ∷ Some Eagain ∷ Some Eagain ∷ []
one-ioctl-at-a-time = refl

pub ioctl-of-the-other-side : refused_by_state no_own (pair none (end Open (Waiting 7 5) []) [] 9) (caller Master) asks ≡ None
ioctl-of-the-other-side = refl

pub answers-of-a-side : map (λ slot. map (λ number. refused_by_state no_own (pair (end Open slot []) none [] 9) (caller Master) (IoctlResult number)) (7 ∷ 8 ∷ [])) slots
    ≡ (Some Einval ∷ Some Einval ∷ []) ∷ (Some Eagain ∷ Some Einval ∷ []) ∷ (None ∷ Some Einval ∷ []) ∷ (None ∷ Some Einval ∷ []) ∷ []
answers-of-a-side = refl

abbrev sizes : ℕ → ℕ → Config
sizes events bytes = record { mblks = 0; dblks = 0; journal_events = events; journal_bytes = bytes }

-- with a journal that has room and blocks that are free, with a journal that is full, with too few blocks, with both
abbrev in_order : ℕ → Request → List (Option Refusal)
in_order next x =
    let s = pair (end Open (Waiting 7 5) []) none [] next in
    refused no_own s [] (sizes 1 9999) true (caller Master) x ∷ refused no_own s [] (sizes 0 9999) true (caller Master) x ∷ refused no_own s [] (sizes 1 9999) false (caller Master) x ∷ refused no_own s [] (sizes 0 9999) false (caller Master) x ∷ []

pub refusals-of-ioctls-in-order : in_order 9 asks ∷ in_order 4294967295 asks ∷ in_order 9 (IoctlResult 8) ∷ []
    ≡ (Some Eagain ∷ Some JournalFull ∷ Some Enosr ∷ Some JournalFull ∷ []) ∷ replicate 4 (Some Erange) ∷ (Some Einval ∷ Some JournalFull ∷ Some Enosr ∷ Some JournalFull ∷ []) ∷ []
refusals-of-ioctls-in-order = refl

-- the journal has room for what is sent and for an answer of 256 bytes
pub room-for-an-ioctl : map (λ bytes. refused no_own (pair none none [] 1) [] (sizes 1 bytes) true (caller Master) (sized 3)) (259 ∷ 258 ∷ []) ≡ None ∷ Some JournalFull ∷ []
room-for-an-ioctl = refl

pub room-for-an-answer : map (λ bytes. refused no_own (pair (end Open (Answered 7 5 true 0 []) []) none [] 9) [] (sizes 1 bytes) true (caller Master) (IoctlResult 7)) (256 ∷ 255 ∷ []) ≡ None ∷ Some JournalFull ∷ []
room-for-an-answer = refl

-- blocks: the header and the body take one of each kind, and 32 have to be free beside
abbrev both_calls : List Request
both_calls = sized 0 ∷ sized 256 ∷ IoctlResult 7 ∷ []

pub blocks-of-ioctls : map blocks_taken both_calls ∷ map blocks_asked both_calls ∷ map content_max both_calls ∷ [] ≡ (2 ∷ 2 ∷ 0 ∷ []) ∷ (34 ∷ 34 ∷ 0 ∷ []) ∷ (256 ∷ 256 ∷ 256 ∷ []) ∷ []
blocks-of-ioctls = refl

-- No cell comes or goes by them. In the journal what is sent stands before the answer.

pub ioctls-are-no-cells : map (λ x. came no_own plain (pair none none [] 1) (Called (caller Master) x Done)) both_calls ≡ [] ∷ [] ∷ [] ∷ []
ioctls-are-no-cells = refl

pub no-cells-go-with-ioctls : map (λ x. gone no_own plain (pair none none [] 1) (Called (caller Master) x Done)) (asks ∷ IoctlResult 7 ∷ [])
    ≡ [] ∷ [] ∷ []
unfolding carried
no-cells-go-with-ioctls = refl

pub bytes-of-ioctls : map payload_of (asks ∷ IoctlResult 7 ∷ []) ∷ map content_of (Bytes (8 ∷ []) ∷ Pending 7 ∷ Nak Enxio ∷ []) ∷ [] ≡ ((200 ∷ []) ∷ [] ∷ []) ∷ ((8 ∷ []) ∷ [] ∷ [] ∷ []) ∷ []
bytes-of-ioctls = refl

pub room-of-ioctls : map room_of (Called (caller Master) asks (Bytes (8 ∷ 9 ∷ [])) ∷ Called (caller Master) (IoctlResult 7) (Bytes (8 ∷ [])) ∷ Called (caller Slave) asks (Pending 7) ∷ []) ≡ 3 ∷ 1 ∷ 1 ∷ []
room-of-ioctls = refl

pub ioctls-over-other-bytes : map (λ (x : Request). map_event (λ bytes. length bytes) x) (asks ∷ IoctlResult 7 ∷ []) ≡ Ioctl 5 1 ∷ IoctlResult 7 ∷ []
ioctls-over-other-bytes = refl

pub told-over-other-bytes : map (map_answer {A = ℕ} {B = ℕ} (λ n. 9)) (Pending 7 ∷ Nak Enxio ∷ []) ≡ Pending 7 ∷ Nak Enxio ∷ []
told-over-other-bytes = refl

pub stored-ioctls : entries_in (Called (caller Master) (Ioctl 5 2) (Bytes 1) ∷ Called (caller Slave) (Ioctl 6 1) (Pending 3) ∷ Called (caller Slave) (IoctlResult 3) (Bytes 2) ∷ Called (caller Master) (IoctlResult 4) (Nak Enxio) ∷ []) (97 ∷ 98 ∷ 99 ∷ 100 ∷ 101 ∷ 102 ∷ [])
    ≡ Called (caller Master) (Ioctl 5 (97 ∷ 98 ∷ [])) (Bytes (99 ∷ [])) ∷ Called (caller Slave) (Ioctl 6 (100 ∷ [])) (Pending 3) ∷ Called (caller Slave) (IoctlResult 3) (Bytes (101 ∷ 102 ∷ [])) ∷ Called (caller Master) (IoctlResult 4) (Nak Enxio) ∷ []
stored-ioctls = refl
