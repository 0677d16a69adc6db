-- What the definitions of refusals and of the journal compute, case by case.
use Rattle.strm_rows.proofs.Prelude.{ℕ, ◌≡◌, Bool, true, false, List, [], ◌∷◌, map, refl, replicate, Option, None, Some, Config, Done, Count, Bytes}
use Rattle.strm_rows.proofs.Prelude.{Moved, Called, Turned, Caller, OpenMaster, Unlock, OpenSlave, Write, Openness, Never, Open, Closed, no_own}
use Rattle.strm_rows.proofs.Prelude.{Driver, QueueName, Side, Master, Slave, Up, Refusal, Einval, Eagain, Enxio, Enosr, JournalFull, caller_of}
use Rattle.strm_rows.proofs.Prelude.{Message, data_message, band_of, size_of, cells_of, is_high_priority, driver_of, new_queue, new_book, head_with}
use Rattle.strm_rows.proofs.Prelude.{State, opening, new_head, chunk_count, Request, payload_of, content_of, PlainEntry, content_max, room_of}
use Rattle.strm_rows.proofs.Prelude.{entries_in, blocks_taken, blocks_asked, refused, turn_refused, no_fates}
use Rattle.strm_types.specs.declared.names.ModuleName.TheVariants as names
use Rattle.strm_types.specs.declared.names.Place.TheVariants as places
use Rattle.strm_types.specs.declared.events.Event.TheVariants.{Read}
use Rattle.strm_types.specs.declared.names.Place.TheVariants.{Head}
use Rattle.strm_laws.specs.State.{new_driver}
use Rattle.strm_types.specs.Journal.{room_used, entry_len}
use Rattle.strm_laws.specs.Refusals.{Free, free_beside, enough, has_room}
use Rattle.strm_types.specs.Refused.{turn_blocks}
use Rattle.strm_laws.specs.Pair.{PairState, new_pair, call_refused, queue_refused}

-- blocks

abbrev free : ℕ → ℕ → Free
free mblks dblks = record { mblks = mblks; dblks = dblks }

abbrev sizes : ℕ → ℕ → ℕ → Config
sizes blocks events bytes = record { mblks = blocks; dblks = blocks; journal_events = events; journal_bytes = bytes }

pub turn-wants-eight-of-each : map (enough (turn_blocks Driver)) (free 8 8 ∷ free 7 8 ∷ free 8 7 ∷ []) ≡ true ∷ false ∷ false ∷ []
turn-wants-eight-of-each = refl

pub turns-want-by-place : map turn_blocks (Head ∷ places.Module names.Ldterm ∷ Driver ∷ []) ≡ 8 ∷ 32 ∷ 8 ∷ []
turns-want-by-place = refl

abbrev writes : List Request
writes = Write [] ∷ Write (97 ∷ []) ∷ Write (replicate 256 97) ∷ Write (replicate 257 97) ∷ Read 9 ∷ OpenMaster ∷ []

pub write-takes-one-a-message : map blocks_taken writes ≡ 1 ∷ 1 ∷ 1 ∷ 2 ∷ 0 ∷ 0 ∷ []
unfolding chunk_count
write-takes-one-a-message = refl

pub write-asks-for-32-more : map blocks_asked writes ≡ 33 ∷ 33 ∷ 33 ∷ 34 ∷ 0 ∷ 0 ∷ []
unfolding chunk_count
write-asks-for-32-more = refl

-- blocks of each kind are counted apart
pub blocks-beside-those-in-use : free_beside 9 (record { mblks = 40; dblks = 30; journal_events = 0; journal_bytes = 0 }) ≡ free 31 21
blocks-beside-those-in-use = refl

-- of 256 blocks 224 may be taken a byte at a time: the 224th such write finds 33 free, the next one 32
pub one-byte-writes-that-fit : map (λ used. enough (blocks_asked (Write (97 ∷ []))) (free_beside used (sizes 256 0 0))) (223 ∷ 224 ∷ []) ≡ true ∷ false ∷ []
unfolding chunk_count
one-byte-writes-that-fit = refl

-- the journal

pub reads-give-4096-at-most : map content_max (Read 4095 ∷ Read 4096 ∷ Read 4097 ∷ Write (97 ∷ []) ∷ Unlock ∷ []) ≡ 4095 ∷ 4096 ∷ 4096 ∷ 0 ∷ 0 ∷ []
reads-give-4096-at-most = refl

abbrev caller : Side → Caller
caller side = caller_of side

abbrev wrote_three : PlainEntry
wrote_three = Called (caller Master) (Write (97 ∷ 98 ∷ 99 ∷ [])) (Count 2)

abbrev read_two : PlainEntry
read_two = Called (caller Slave) (Read 9) (Bytes (97 ∷ 98 ∷ []))

abbrev moved_two : PlainEntry
moved_two = Turned (driver_of Master) (Moved 2)

pub entries-take-room : map room_of (wrote_three ∷ read_two ∷ moved_two ∷ []) ≡ 3 ∷ 2 ∷ 0 ∷ []
entries-take-room = refl

pub entries-take-room-together : room_used (wrote_three ∷ moved_two ∷ read_two ∷ []) ≡ 5
entries-take-room-together = refl

-- the last entry, and the last byte: two entries and five bytes stand in the journal
abbrev room : ℕ → ℕ → ℕ → Bool
room events bytes more = has_room (wrote_three ∷ read_two ∷ []) (sizes 0 events bytes) more

pub last-entry-and-last-byte : room 3 9 4 ∷ room 2 9 4 ∷ room 3 9 5 ∷ room 3 5 0 ∷ room 3 4 0 ∷ [] ≡ true ∷ false ∷ false ∷ true ∷ false ∷ []
last-entry-and-last-byte = refl

pub stored-lengths : map entry_len (Called (caller Master) (Write 3) (Count 2) ∷ Called (caller Slave) (Read 9) (Bytes 2) ∷ Called (caller Slave) OpenSlave Done ∷ Turned (driver_of Master) (Moved 2) ∷ []) ≡ 3 ∷ 2 ∷ 0 ∷ 0 ∷ []
stored-lengths = refl

-- each stored entry has its bytes behind those of the entries before it
pub stored-entries : entries_in (Called (caller Master) (Write 3) (Count 2) ∷ Turned (driver_of Master) (Moved 2) ∷ Called (caller Slave) (Read 9) (Bytes 2) ∷ Called (caller Master) (Write 1) (Count 1) ∷ []) (97 ∷ 98 ∷ 99 ∷ 97 ∷ 98 ∷ 100 ∷ []) ≡ wrote_three ∷ moved_two ∷ read_two ∷ Called (caller Master) (Write (100 ∷ [])) (Count 1) ∷ []
stored-entries = refl

pub payloads : map payload_of (Write (97 ∷ []) ∷ Read 1 ∷ OpenSlave ∷ []) ≡ (97 ∷ []) ∷ [] ∷ [] ∷ []
payloads = refl

pub contents : map content_of (Bytes (97 ∷ []) ∷ Count 1 ∷ Done ∷ []) ≡ (97 ∷ []) ∷ [] ∷ [] ∷ []
contents = refl

-- of one entry the answer's bytes stand behind those of the call
pub answer-behind-its-call : entries_in (Called (caller Master) (Write 1) (Bytes 2) ∷ []) (97 ∷ 98 ∷ 99 ∷ []) ≡ Called (caller Master) (Write (97 ∷ [])) (Bytes (98 ∷ 99 ∷ [])) ∷ []
answer-behind-its-call = refl

-- what refuses a call

abbrev ordinary : List ℕ → Message ℕ
ordinary bytes = data_message bytes

-- a state in which both sides are as said, the slave is locked or not, a message stands on the slave's head, and on the
-- master's driver 512 bytes, its high mark
abbrev state : Openness → Openness → Bool → State ℕ
state master slave locked = record {
  ends = record {
    master = record {
      opened = master;
      head = new_head;
      modules = [];
      driver = record { queue = record (new_queue 512 128) { messages = ordinary (replicate 512 97) ∷ [] } };
    };
    slave = record {
      opened = slave;
      head = head_with (record (new_queue 5120 1024) { messages = ordinary [] ∷ [] }) false;
      modules = [];
      driver = new_driver;
    };
  };
  locked = locked;
  enabled = driver_of Master ∷ [];
  next_ioctl = 1;
  books = record { master = new_book; slave = new_book };
}

-- with a journal that has room and blocks that are free, with a journal that is full, with too few blocks, with both
abbrev answers : State ℕ → Side → Request → List (Option Refusal)
answers s side asked =
    refused no_own s [] (sizes 0 1 9999) true (caller side) asked
    ∷ refused no_own s [] (sizes 0 0 9999) true (caller side) asked
    ∷ refused no_own s [] (sizes 0 1 9999) false (caller side) asked
    ∷ refused no_own s [] (sizes 0 0 9999) false (caller side) asked
    ∷ []

abbrev always : Refusal → List (Option Refusal)
always r = Some r ∷ Some r ∷ Some r ∷ Some r ∷ []

abbrev at_last : Option Refusal → List (Option Refusal)
at_last r = r ∷ Some JournalFull ∷ Some Enosr ∷ Some JournalFull ∷ []

pub opening-the-master : map (λ master. answers (state master Never true) Master OpenMaster) (Never ∷ Open ∷ Closed ∷ []) ≡ at_last None ∷ at_last (Some Einval) ∷ at_last (Some Einval) ∷ []
opening-the-master = refl

pub unlocking : map (λ master. answers (state master Open true) Master Unlock) (Never ∷ Open ∷ Closed ∷ []) ≡ always Enxio ∷ at_last None ∷ always Enxio ∷ []
unlocking = refl

-- EINVAL before a full journal, ENXIO before EINVAL
pub unlocking-by-the-slave : map (λ slave. answers (state Open slave true) Slave Unlock) (Never ∷ Open ∷ Closed ∷ []) ≡ always Enxio ∷ always Einval ∷ always Enxio ∷ []
unlocking-by-the-slave = refl

pub opening-the-slave : map (λ slave. answers (state Open slave false) Slave OpenSlave) (Never ∷ Open ∷ Closed ∷ []) ≡ at_last None ∷ at_last (Some Einval) ∷ at_last None ∷ []
opening-the-slave = refl

pub opening-the-locked-slave : map (λ slave. answers (state Open slave true) Slave OpenSlave) (Never ∷ Open ∷ Closed ∷ []) ≡ at_last (Some Eagain) ∷ at_last (Some Einval) ∷ at_last (Some Eagain) ∷ []
opening-the-locked-slave = refl

pub opening-the-slave-alone : map (λ master. answers (state master Never false) Slave OpenSlave) (Never ∷ Closed ∷ []) ≡ always Enxio ∷ always Enxio ∷ []
opening-the-slave-alone = refl

-- the master's driver is full, the slave's isn't
pub writing : answers (state Open Open false) Master (Write (97 ∷ [])) ∷ answers (state Open Open false) Slave (Write (97 ∷ [])) ∷ answers (state Open Never false) Slave (Write (97 ∷ [])) ∷ [] ≡ at_last (Some Eagain) ∷ at_last None ∷ always Enxio ∷ []
unfolding data_message band_of size_of cells_of is_high_priority
writing = refl

-- a zero-length message stands at the slave's head, and nothing at the master's
pub reading : answers (state Open Open false) Slave (Read 1) ∷ answers (state Open Open false) Master (Read 1) ∷ answers (state Open Open false) Master (Read 0) ∷ answers (state Closed Open false) Master (Read 0) ∷ [] ≡ at_last None ∷ at_last (Some Eagain) ∷ at_last None ∷ always Enxio ∷ []
unfolding data_message
reading = refl

-- a write wants room for all its bytes, a read for as many as it may give
pub room-for-the-bytes : map (λ bytes. refused no_own (state Open Open false) [] (sizes 0 1 bytes) true (caller Slave) (Write (97 ∷ 98 ∷ []))) (2 ∷ 1 ∷ []) ≡ None ∷ Some JournalFull ∷ []
unfolding data_message band_of size_of cells_of is_high_priority
room-for-the-bytes = refl

pub room-for-the-answer : map (λ bytes. refused no_own (state Open Open false) [] (sizes 0 1 bytes) true (caller Slave) (Read 7)) (7 ∷ 6 ∷ []) ≡ None ∷ Some JournalFull ∷ []
unfolding data_message
room-for-the-answer = refl

-- turns: a queue that isn't enabled, before a full journal, before too few blocks

abbrev turn_answers : QueueName → List (Option Refusal)
turn_answers name =
    turn_refused (state Open Open false) [] (sizes 0 1 0) true name
    ∷ turn_refused (state Open Open false) [] (sizes 0 0 0) true name
    ∷ turn_refused (state Open Open false) [] (sizes 0 1 0) false name
    ∷ turn_refused (state Open Open false) [] (sizes 0 0 0) false name
    ∷ []

pub turning : map turn_answers (driver_of Master ∷ driver_of Slave ∷ []) ≡ at_last None ∷ always Einval ∷ []
turning = refl

-- pairs: as they are made, and what they refuse by the blocks that are free

pub new-pair-is-empty : new_pair (sizes 40 3 9) ≡ record { state = opening; base = opening; journal = []; limits = sizes 40 3 9; free = free 40 40; fates = no_fates; base_fates = no_fates; past = [] }
new-pair-is-empty = refl

abbrev pair : ℕ → ℕ → PairState
pair mblks dblks = record { state = state Open Open false; base = opening; journal = []; limits = sizes 40 3 9; free = free mblks dblks; fates = no_fates; base_fates = no_fates; past = [] }

pub pair-turns-with-eight-blocks : map (λ p. queue_refused p (driver_of Master)) (pair 8 8 ∷ pair 7 8 ∷ pair 8 7 ∷ []) ≡ None ∷ Some Enosr ∷ Some Enosr ∷ []
pair-turns-with-eight-blocks = refl

abbrev line : QueueName
line = record { side = Slave; place = places.Module names.Ldterm; way = Up }

abbrev pair_of_line : ℕ → ℕ → PairState
pair_of_line mblks dblks =
    let p = pair mblks dblks in
    record p { state = record p.state { enabled = line ∷ [] } }

pub modules-turn-with-32-blocks : map (λ p. queue_refused p line) (pair_of_line 32 32 ∷ pair_of_line 31 32 ∷ pair_of_line 32 31 ∷ []) ≡ None ∷ Some Enosr ∷ Some Enosr ∷ []
modules-turn-with-32-blocks = refl

pub pair-writes-with-33-blocks : map (λ p. call_refused no_own p (caller Slave) (Write (97 ∷ []))) (pair 33 33 ∷ pair 32 33 ∷ pair 33 32 ∷ []) ≡ None ∷ Some Enosr ∷ Some Enosr ∷ []
unfolding chunk_count
pair-writes-with-33-blocks = refl

pub pair-reads-without-blocks : call_refused no_own (pair 0 0) (caller Slave) (Read 7) ≡ None
unfolding data_message
pair-reads-without-blocks = refl
