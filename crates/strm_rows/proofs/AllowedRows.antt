-- What refuses flushes, closes and turns, and where input ends, case by case.
use Rattle.strm_rows.proofs.Prelude.{ℕ, ◌≡◌, ◌-◌, Bool, true, false, List, [], ◌∷◌, map, refl, replicate, Option, None, Some, Config, Answer, Done}
use Rattle.strm_rows.proofs.Prelude.{Name, Bytes, Book, Called, Turned, Idle, Caller, OpenMaster, Unlock, OpenSlave, Shut, Pop, Look, Write, Band}
use Rattle.strm_rows.proofs.Prelude.{Dir, MasterToSlave, SlaveToMaster, Ptem, Pckt, Openness, Never, Open, Closed, Side, Master, Slave, Refusal}
use Rattle.strm_rows.proofs.Prelude.{Einval, Eagain, Ebadmsg, Enxio, Enosr, Erange, JournalFull, Request, map_event, map_answer, plain, is_data_kind}
use Rattle.strm_rows.proofs.Prelude.{caller_of, content_max, entries_in, came, gone, Fate, Goes, carried, Discard, MessageDiscard, chunk_count}
use Rattle.strm_rows.proofs.Prelude.{Message, cells_of, size_of, is_held, is_high_priority, rank_of, band_of, data_message, driver_of, blocks_asked}
use Rattle.strm_rows.proofs.Prelude.{blocks_taken, at_end, refused, turn_refused, State, Stream, with_stream, module_named, head_with, flow, queue}
use Rattle.strm_rows.proofs.Prelude.{ordinary, proto, urgent, options, no_own}
use Rattle.strm_types.specs.declared.events.Event.TheVariants.{Push, Flush, Read}
use Rattle.strm_types.specs.declared.events.FlushQueues.TheVariants as flushes
use Rattle.strm_types.specs.declared.names.ModuleName.TheVariants.{Ldterm}
use Rattle.strm_types.specs.declared.rules.Rule.TheVariants as rules
use Rattle.strm_types.specs.Books.{has_room}
use Rattle.strm_types.specs.Names.{is_closed}
use Rattle.strm_laws.specs.Refusals.{in_range}
use Rattle.strm_types.specs.Needs.{needs}
use Rattle.strm_types.specs.Refused.{has_no_data}

abbrev caller : Side → Caller
caller side = caller_of side

abbrev band : ℕ → Option Band
band n = Some (record { 0 = n })

-- blocks that are asked, and taken

abbrev changes : List Request
changes = Flush flushes.Read None ∷ Flush flushes.Both (band 3) ∷ Push (Some Ldterm) ∷ Pop ∷ Shut ∷ Look ∷ Unlock ∷ OpenSlave ∷ []

pub changes-ask-for-eight-and-two : map blocks_asked changes ≡ 8 ∷ 8 ∷ 8 ∷ 8 ∷ 2 ∷ 0 ∷ 0 ∷ 0 ∷ []
changes-ask-for-eight-and-two = refl

pub changes-take-none : map blocks_taken changes ≡ 0 ∷ 0 ∷ 0 ∷ 0 ∷ 0 ∷ 0 ∷ 0 ∷ 0 ∷ []
changes-take-none = refl

pub changes-answer-no-bytes : map content_max changes ≡ 0 ∷ 0 ∷ 0 ∷ 0 ∷ 0 ∷ 0 ∷ 0 ∷ 0 ∷ []
changes-answer-no-bytes = refl

-- the same calls and answers, whatever stands for their bytes
pub other-bytes-change-no-call : map (λ asked. map_event (λ (bytes : List ℕ). bytes) asked) changes ≡ changes
other-bytes-change-no-call = refl

pub other-bytes-change-no-answer : map (λ (told : Answer ℕ). map_answer (λ (len : ℕ). len - 1) told) (Done ∷ Name Pckt ∷ Bytes 3 ∷ []) ≡ Done ∷ Name Pckt ∷ Bytes 2 ∷ []
other-bytes-change-no-answer = refl

-- stored ones take no bytes of the buffer
pub stored-changes : entries_in (Called (caller Slave) (Flush flushes.Write (band 3)) Done ∷ Called (caller Master) Look (Name Ldterm) ∷ Called (caller Master) (Read 9) (Bytes 1) ∷ []) (97 ∷ []) ≡ Called (caller Slave) (Flush flushes.Write (band 3)) Done ∷ Called (caller Master) Look (Name Ldterm) ∷ Called (caller Master) (Read 9) (Bytes (97 ∷ [])) ∷ []
stored-changes = refl

-- arguments

pub modules-are-known : map (λ name. (needs (Push name)).wrong) (None ∷ Some Ldterm ∷ Some Ptem ∷ Some Pckt ∷ []) ≡ Some Einval ∷ None ∷ None ∷ None ∷ []
modules-are-known = refl

pub every-band-may-be-flushed : map (λ which. (needs (Flush flushes.Both which)).wrong) (None ∷ band 0 ∷ band 8 ∷ band 255 ∷ []) ≡ replicate 4 None
every-band-may-be-flushed = refl

pub closed-sides : map is_closed (Never ∷ Open ∷ Closed ∷ []) ≡ false ∷ false ∷ true ∷ []
closed-sides = refl

-- books: below 2^62 of either kind

abbrev book : ℕ → ℕ → Book
book written made = record { written = written; made = made }

pub books-are-full-from-the-limit-on : map has_room (book 4611686018427387903 4611686018427387903 ∷ book 4611686018427387904 0 ∷ book 0 4611686018427387904 ∷ []) ≡ true ∷ false ∷ false ∷ []
books-are-full-from-the-limit-on = refl

-- states

abbrev end : Openness → Bool → List (Message ℕ) → List (Message ℕ) → Stream ℕ
end opened hung_up head driver = record { opened = opened; head = head_with (queue head []) hung_up; modules = []; driver = record { queue = queue driver (flow 9 2 false ∷ []) } }

abbrev pair : Stream ℕ → Stream ℕ → Book → Book → State ℕ
pair master slave from_master from_slave = record {
  ends = record { master = master; slave = slave };
  locked = false;
  enabled = driver_of Master ∷ [];
  next_ioctl = 1;
  books = record { master = from_master; slave = from_slave };
}

abbrev state : Openness → Bool → Book → Book → State ℕ
state slave hung_up from_master from_slave = pair (end Open false [] []) (end slave hung_up [] []) from_master from_slave

abbrev limit : ℕ
limit = 4611686018427387904

-- a pair that has room in its books, and one for each book and number that is full
abbrev booked : Openness → Bool → List (State ℕ)
booked slave hung_up =
    state slave hung_up (book 4611686018427387903 0) (book 0 4611686018427387903)
    ∷ state slave hung_up (book limit 0) (book 0 0)
    ∷ state slave hung_up (book 0 limit) (book 0 0)
    ∷ state slave hung_up (book 0 0) (book limit 0)
    ∷ state slave hung_up (book 0 0) (book 0 limit)
    ∷ []

pub any-full-book-counts : map (λ s. in_range s) (booked Open false) ≡ true ∷ false ∷ false ∷ false ∷ false ∷ []
any-full-book-counts = refl

abbrev sizes : ℕ → ℕ → Config
sizes events bytes = record { mblks = 0; dblks = 0; journal_events = events; journal_bytes = bytes }

-- with a journal that has room and blocks that are free, with a journal that is full, with too few blocks, with both
abbrev answers : Request → State ℕ → List (Option Refusal)
answers asked s =
    refused no_own s [] (sizes 1 9999) true (caller Slave) asked
    ∷ refused no_own s [] (sizes 0 9999) true (caller Slave) asked
    ∷ refused no_own s [] (sizes 1 9999) false (caller Slave) asked
    ∷ refused no_own s [] (sizes 0 9999) false (caller Slave) asked
    ∷ []

abbrev always : Refusal → List (Option Refusal)
always r = Some r ∷ Some r ∷ Some r ∷ Some r ∷ []

abbrev at_last : Option Refusal → List (Option Refusal)
at_last r = r ∷ Some JournalFull ∷ Some Enosr ∷ Some JournalFull ∷ []

-- where one refusal comes however full the books are, and where full books refuse
abbrev whatever : List (Option Refusal) → List (List (Option Refusal))
whatever r = r ∷ r ∷ r ∷ r ∷ r ∷ []

abbrev ranged : List (Option Refusal) → List (List (Option Refusal))
ranged r = r ∷ always Erange ∷ always Erange ∷ always Erange ∷ always Erange ∷ []

-- by a side that isn't open or that is hung up, by an argument, by the books, and then by what comes behind these
pub writes-want-room-in-the-books : map (answers (Write (97 ∷ []))) (booked Open false) ≡ ranged (at_last None)
writes-want-room-in-the-books = refl

pub flushes-want-room-in-the-books : map (answers (Flush flushes.Both (band 255))) (booked Open false) ≡ ranged (at_last None)
flushes-want-room-in-the-books = refl

pub pops-want-room-in-the-books : map (answers Pop) (booked Open false) ≡ ranged (at_last (Some Einval))
pops-want-room-in-the-books = refl

pub modules-are-asked-for-before-the-books : map (λ name. map (answers (Push name)) (booked Open false)) (None ∷ []) ≡ whatever (always Einval) ∷ []
modules-are-asked-for-before-the-books = refl

pub pushes-want-room-in-the-books : map (λ name. map (answers (Push (Some name))) (booked Open false)) (Ldterm ∷ Ptem ∷ Pckt ∷ []) ≡ ranged (at_last None) ∷ ranged (at_last None) ∷ ranged (at_last None) ∷ []
pushes-want-room-in-the-books = refl

-- where an ldterm stands, another one is refused and a ptem isn't, and it may be taken off and looked at
abbrev stacked : State ℕ
stacked = pair (end Open false [] []) (record (end Open false [] []) { modules = module_named no_own Ldterm ∷ [] }) (book 0 0) (book 0 0)

pub one-ldterm-stands-on-a-stream : map (λ asked. answers asked stacked) (Push (Some Ldterm) ∷ Push (Some Ptem) ∷ Pop ∷ Look ∷ []) ≡ at_last (Some Einval) ∷ at_last None ∷ at_last None ∷ at_last None ∷ []
one-ldterm-stands-on-a-stream = refl

pub looks-and-closes-want-no-room-in-the-books : map (answers Look) (booked Open false) ≡ whatever (at_last (Some Einval))
looks-and-closes-want-no-room-in-the-books = refl

pub closes-want-no-room-in-the-books : map (answers Shut) (booked Open false) ≡ whatever (at_last None)
closes-want-no-room-in-the-books = refl

pub opens-and-reads-want-no-room-in-the-books : map (λ asked. map (answers asked) (booked Open false)) (OpenMaster ∷ OpenSlave ∷ Read 0 ∷ []) ≡ whatever (at_last (Some Einval)) ∷ whatever (at_last (Some Einval)) ∷ whatever (at_last None) ∷ []
opens-and-reads-want-no-room-in-the-books = refl

-- nothing goes down a stream that isn't open or is hung up, whatever the arguments and the books
abbrev downward : List Request
downward = Write (97 ∷ []) ∷ Push None ∷ Pop ∷ Flush flushes.Write (band 8) ∷ []

pub nothing-goes-down-a-closed-stream : map (λ slave. map (λ asked. answers asked (state slave false (book limit 0) (book 0 0))) downward) (Never ∷ Closed ∷ []) ≡ (always Enxio ∷ always Enxio ∷ always Enxio ∷ always Enxio ∷ []) ∷ (always Enxio ∷ always Enxio ∷ always Enxio ∷ always Enxio ∷ []) ∷ []
nothing-goes-down-a-closed-stream = refl

pub nothing-goes-down-a-stream-that-is-hung-up : map (λ asked. answers asked (state Open true (book 0 0) (book limit 0))) downward ≡ always Enxio ∷ always Enxio ∷ always Enxio ∷ always Enxio ∷ []
nothing-goes-down-a-stream-that-is-hung-up = refl

-- looks, closes and reads want an open side, which may be hung up
pub calls-on-a-side-that-is-hung-up : map (λ asked. answers asked (state Open true (book 0 0) (book 0 0))) (Look ∷ Shut ∷ Read 7 ∷ []) ≡ at_last (Some Einval) ∷ at_last None ∷ at_last None ∷ []
calls-on-a-side-that-is-hung-up = refl

pub calls-on-a-side-that-is-closed : map (λ asked. answers asked (state Closed true (book 0 0) (book 0 0))) (Look ∷ Shut ∷ Read 7 ∷ []) ≡ always Enxio ∷ always Enxio ∷ always Enxio ∷ []
calls-on-a-side-that-is-closed = refl

-- turns: a queue that isn't enabled, then the books, a full journal, too few blocks
abbrev turn_answers : Side → State ℕ → List (Option Refusal)
turn_answers side s =
    turn_refused s [] (sizes 1 0) true (driver_of side)
    ∷ turn_refused s [] (sizes 0 0) true (driver_of side)
    ∷ turn_refused s [] (sizes 1 0) false (driver_of side)
    ∷ turn_refused s [] (sizes 0 0) false (driver_of side)
    ∷ []

pub turns-want-room-in-the-books : map (turn_answers Master) (booked Open false) ≡ ranged (at_last None)
turns-want-room-in-the-books = refl

pub turns-of-queues-that-rest : map (turn_answers Slave) (booked Open false) ≡ whatever (always Einval)
turns-of-queues-that-rest = refl

-- the end of input

-- only M_DATA and M_PROTO count as data on their way
pub data-on-the-way : map (λ (ms : List (Message ℕ)). has_no_data ms) ([] ∷ (ordinary [] ∷ []) ∷ (urgent ∷ options ∷ []) ∷ (urgent ∷ options ∷ proto ∷ []) ∷ []) ≡ true ∷ false ∷ true ∷ false ∷ []
unfolding is_held
data-on-the-way = refl

abbrev ending : Bool → Openness → List (Message ℕ) → State ℕ
ending hung_up slave driver = pair (end Open hung_up [] []) (end slave false [] driver) (book 0 0) (book 0 0)

-- at the master: the slave was closed, and nothing of it is on its way
pub input-of-the-master-ends : map (λ s. at_end Master s) (ending false Never [] ∷ ending false Open [] ∷ ending false Closed [] ∷ ending false Closed (options ∷ []) ∷ ending false Closed (proto ∷ []) ∷ ending true Open (proto ∷ []) ∷ []) ≡ false ∷ false ∷ true ∷ true ∷ false ∷ true ∷ []
unfolding is_held
input-of-the-master-ends = refl

-- at the slave: it is hung up, and nothing else
pub input-of-the-slave-ends : map (λ hung_up. at_end Slave (pair (end Closed true [] []) (end Open hung_up [] []) (book 0 0) (book 0 0))) (true ∷ false ∷ []) ≡ true ∷ false ∷ []
input-of-the-slave-ends = refl

-- a read is refused for an M_PROTO that waits, also at the end of input, where else it gives nothing
abbrev read_at_end : ℕ → Bool → List (Message ℕ) → Option Refusal
read_at_end n hung_up ms = refused no_own (pair (end Open false [] []) (end Open hung_up ms []) (book 0 0) (book 0 0)) [] (sizes 1 9) true (caller Slave) (Read n)

pub reads-of-an-m-proto : read_at_end 1 false (proto ∷ []) ∷ read_at_end 1 true (proto ∷ []) ∷ read_at_end 0 false (proto ∷ []) ∷ read_at_end 1 false (ordinary [] ∷ proto ∷ []) ∷ read_at_end 1 false [] ∷ read_at_end 1 true [] ∷ []
    ≡ Some Ebadmsg ∷ Some Ebadmsg ∷ None ∷ None ∷ Some Eagain ∷ None ∷ []
unfolding is_held
reads-of-an-m-proto = refl

-- a read of an empty head waits for more, unless the input ends or it asks for none
pub reads-at-the-end : map (λ s. refused no_own s [] (sizes 1 9) true (caller Master) (Read 1)) (ending false Open [] ∷ ending false Closed (proto ∷ []) ∷ ending false Closed [] ∷ []) ≡ Some Eagain ∷ Some Eagain ∷ None ∷ []
unfolding is_held
reads-at-the-end = refl

-- what entries take away, and what they bring

abbrev held : State ℕ
held = pair (end Open false (ordinary (1 ∷ []) ∷ []) (ordinary (2 ∷ []) ∷ [])) (end Open false (proto ∷ []) (ordinary (4 ∷ []) ∷ [])) (book 0 0) (book 0 0)

abbrev read_of : Dir → List ℕ → List ℕ → List ℕ → List (Fate ℕ)
read_of dir given discarded dropped =
    Goes dir rules.Read given
    ∷ Goes dir rules.RestDiscarded discarded
    ∷ Goes dir rules.ControlDropped dropped ∷ []

-- the same with the slave's head in RMSGD and RPROTDIS
abbrev held_in_messages : State ℕ
held_in_messages = with_stream Slave (record held.ends.slave { head = record held.ends.slave.head { read_mode = MessageDiscard; control_mode = Discard } }) held

-- an M_PROTO is refused, and nothing goes; in the modes of the head some is given, some discarded and some dropped
pub reads-take-away : gone no_own plain held (Called (caller Slave) (Read 2) Done) ∷ gone no_own plain held (Called (caller Master) (Read 9) Done) ∷ gone no_own plain held_in_messages (Called (caller Slave) (Read 2) Done) ∷ []
    ≡ [] ∷ read_of SlaveToMaster (1 ∷ []) [] [] ∷ read_of MasterToSlave (3 ∷ 4 ∷ []) (5 ∷ []) (1 ∷ 2 ∷ []) ∷ []
unfolding size_of cells_of rank_of is_high_priority
reads-take-away = refl

pub flush-takes-away : gone no_own plain held (Called (caller Master) (Flush flushes.Write (band 2)) Done) ≡ Goes MasterToSlave rules.Flushed [] ∷ Goes MasterToSlave rules.Flushed (1 ∷ 2 ∷ 3 ∷ 4 ∷ 5 ∷ []) ∷ []
unfolding carried size_of cells_of is_data_kind is_high_priority band_of
flush-takes-away = refl

pub close-takes-away : gone no_own plain held (Called (caller Slave) Shut Done) ≡ Goes MasterToSlave rules.EndClosed (1 ∷ 2 ∷ 3 ∷ 4 ∷ 5 ∷ []) ∷ []
unfolding size_of cells_of is_high_priority band_of
close-takes-away = refl

pub other-entries-take-nothing-away : map (λ e. gone no_own plain held e) (Called (caller Slave) OpenSlave Done ∷ Called (caller Slave) Pop Done ∷ Called (caller Slave) (Write (97 ∷ [])) Done ∷ Turned (driver_of Master) Idle ∷ []) ≡ [] ∷ [] ∷ [] ∷ [] ∷ []
unfolding carried chunk_count data_message is_held size_of cells_of rank_of is_high_priority band_of
other-entries-take-nothing-away = refl

pub other-entries-bring-nothing : map (λ e. came no_own plain held e) (Called (caller Slave) Shut Done ∷ Called (caller Slave) (Flush flushes.Both None) Done ∷ Called (caller Slave) (Read 1) Done ∷ Turned (driver_of Master) Idle ∷ []) ≡ [] ∷ [] ∷ [] ∷ [] ∷ []
other-entries-bring-nothing = refl
