-- What a pair over a store stands for.
use Rattle.std.specs.Prelude.{ℕ, ◌≡◌, ◌<◌, ◌+◌, List, []}
use Rattle.strm_pair.specs.Prelude.{Side, Master, Slave, get, set, map_both, State, Free, PlainEntry, entries_in, StoreValue, free_m, free_d, in_hand}
use Rattle.strm_pair.specs.declared.streams.Streams.{Streams}
use Rattle.strm_pair.specs.declared.ends.StreamEnd.{StreamEnd}
use Rattle.strm_pair.specs.declared.journal.Journal.{Journal}
use Rattle.strm_pair.specs.Streams.{stream_in, AreSides}
use Rattle.strm_pair.specs.Stacks.{stack_keeps}

-- the plain state
abbrev pub state_in : StoreValue → Streams → State ℕ
state_in s p = record {
  ends = map_both (stream_in s) p.ends;
  locked = p.locked;
  enabled = p.enabled;
  next_ioctl = p.next_ioctl;
  books = p.books;
}

-- the stream of a side
abbrev pub end_at : Side → Streams → StreamEnd
end_at side p = get side p.ends

-- the streams with another stream on a side
abbrev pub with_end : Side → StreamEnd → Streams → Streams
with_end side e p = record p { ends = set side e p.ends }

-- the store and the streams beside it fit, whatever is in hand
abbrev pub AreBeside : StoreValue → Streams → Type 0
AreBeside s p = AreSides s p.ends

-- how often the stacks of both sides keep a message of a name in hand
abbrev pub kept_by : Streams → ℕ → ℕ
kept_by p i = stack_keeps (end_at Master p).stack i + stack_keeps (end_at Slave p).stack i

-- the same while nobody is in a call: nothing is in hand
pub record AreHeld (s : StoreValue) (p : Streams) : Type 0 where
  pub hand : s.hand ≡ []
  pub beside : AreBeside s p

-- how many blocks of each kind are free in the store
abbrev pub free_in : StoreValue → Free
free_in s = record { mblks = free_m s; dblks = free_d s }

-- the store has as many blocks, and the messages that are kept in hand are as they were
pub record Stays (old new : StoreValue) (keeps : ℕ → ℕ) : Type 0 where
  pub mblks : new.mblks ≡ old.mblks
  pub dblks : new.dblks ≡ old.dblks
  pub kept : (i : ℕ) → 0 < keeps i → in_hand new i ≡ in_hand old i

-- the store has as many blocks as before
pub record SamePool (old new : StoreValue) : Type 0 where
  pub mblks : new.mblks ≡ old.mblks
  pub dblks : new.dblks ≡ old.dblks

-- the plain journal
unfoldable pub journal_of : Journal → List PlainEntry
journal_of j = entries_in j.entries.items j.bytes.items
