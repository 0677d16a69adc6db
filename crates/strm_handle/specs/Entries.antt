-- Which entry of a journal a C program is told, and what taking one does.
use Rattle.std.specs.Prelude.{ℕ, ◌≡◌, ◌+◌, ◌≤◌, ◌==◌, nat_le, if◌then◌else◌, Bool, true, false, List, length, take, drop, Option, None, Some, slice_get, sum_by}
use Rattle.strm_types.specs.declared.answers.Turn.{Turn}
use Rattle.strm_types.specs.declared.entries.Entry.{Entry}
use Rattle.strm_types.specs.declared.entries.Entry.TheVariants.{Called, Turned}
use Rattle.strm_types.specs.declared.events.Caller.{Caller}
use Rattle.strm_types.specs.declared.names.QueueName.{QueueName}
use Rattle.strm_types.specs.Events.{Request}
use Rattle.strm_types.specs.Events as events
use Rattle.strm_types.specs.Journal.{PlainEntry, entries_in, entry_in, entry_len, room_of, room_used}
use Rattle.strm_handle.specs.declared.entries.Cursor.{Cursor}
use Rattle.strm_handle.specs.declared.entries.Entered.{Entered}
use Rattle.strm_handle.specs.Numbers.{queue_told, turn_at}
use Rattle.strm_handle.specs.Calls.{answer_in, caller_at, event_at}
use Rattle.strm_handle.specs.Kept.{KeptPair}

-- the entry of numbers, over the bytes of its call and those of its answer behind them
abbrev called_of : Option Caller → Option Request → Option events.Reply → Option PlainEntry
called_of (Some caller) (Some asked) (Some answer) = Some (Called caller asked answer)
called_of _ _ _ = None

abbrev turned_of : Option QueueName → Option Turn → Option PlainEntry
turned_of (Some name) (Some turn) = Some (Turned name turn)
turned_of _ _ = None

abbrev pub entry_at : Entered → List ℕ → Option PlainEntry
entry_at told bytes =
    if told.kind == 0 then called_of (caller_at told.ask) (event_at told.ask (take told.brings bytes)) (answer_in told.reply (drop told.brings bytes))
    else (if told.kind == 1 then turned_of (queue_told told.queue) (turn_at told.went.kind told.went.moved) else None)

-- numbers that tell a stored entry, over its bytes
abbrev pub Enters : Entered → Entry ℕ → Type 0
Enters told entry = (bytes : List ℕ) → entry_len entry ≤ length bytes → entry_at told bytes ≡ Some (entry_in entry bytes)

-- A cursor stands at an entry of a journal where it counts the bytes of all that are in front of it.
abbrev pub StandsAt : Cursor → List PlainEntry → Type 0
StandsAt at journal = at.byte ≡ room_used (take at.entry journal)

-- the memory of a caller who takes an entry
pub record Taking : Type 0 where
  pub at : Cursor
  pub told : Entered
  pub out : List ℕ

abbrev pub taking : Cursor → Entered → List ℕ → Taking
taking at told out = record { at = at; told = told; out = out }

-- An entry is taken: the numbers and the front of the buffer tell it, behind its bytes the buffer stays, and the cursor moves behind it.
pub record TakesEntry (e : PlainEntry) (old new : Taking) : Type 0 where
  pub told : entry_at new.told new.out ≡ Some e
  pub bytes : new.told.brings + new.told.reply.bytes ≡ room_of e
  pub others : drop (room_of e) new.out ≡ drop (room_of e) old.out
  pub entry : new.at.entry ≡ old.at.entry + 1
  pub byte : new.at.byte ≡ old.at.byte + room_of e

-- An entry doesn't fit: with its bytes the numbers tell it, and how many those are; cursor and buffer stay.
pub record AsksRoom (e : PlainEntry) (old new : Taking) : Type 0 where
  pub missing : List ℕ
  pub told : entry_at new.told missing ≡ Some e
  pub bytes : new.told.brings + new.told.reply.bytes ≡ room_of e
  pub out : new.out ≡ old.out
  pub at : new.at ≡ old.at

abbrev pub taken_where : Bool → PlainEntry → Taking → Taking → ℕ → Type 0
taken_where true e old new n = (n ≡ 0) × TakesEntry e old new
taken_where false e old new n = (n ≡ 1) × AsksRoom e old new

-- The entry at a cursor: EAGAIN behind the last one, EINVAL where the buffer is too small for its bytes.
abbrev pub Takes : Option PlainEntry → Type 0 → Taking → Taking → ℕ → Type 0
Takes None stands old new n = (n ≡ 2) × (new ≡ old)
Takes (Some e) stands old new n = stands → taken_where (nat_le (room_of e) (length old.out)) e old new n

-- of a journal:
abbrev pub TakesAt : List PlainEntry → Taking → Taking → ℕ → Type 0
TakesAt journal old new n = Takes (slice_get journal old.at.entry) (StandsAt old.at journal) old new n

-- of stored entries, each of which has its bytes:
abbrev pub AreWhole : List (Entry ℕ) → List ℕ → Type 0
AreWhole entries bytes = sum_by entry_len entries ≡ length bytes

abbrev pub TakesStored : List (Entry ℕ) → List ℕ → Taking → Taking → ℕ → Type 0
TakesStored entries bytes old new n =
    Takes (slice_get (entries_in entries bytes) old.at.entry) (AreWhole entries bytes × StandsAt old.at (entries_in entries bytes)) old new n

-- At a handle, whose pair stays; EINVAL for a closed one.
abbrev pub NextEntry : Option KeptPair → Taking → Taking → ℕ → Type 0
NextEntry None old new n = (n ≡ 1) × (new ≡ old)
NextEntry (Some k) old new n = TakesAt k.pair.journal old new n
