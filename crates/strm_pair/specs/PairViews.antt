-- What a pair over a store stands for, and what holds of each.
use Rattle.std.specs.Prelude.{ℕ, ◌≡◌, Bool, true}
use Rattle.strm_pair.specs.Prelude.{Config, Fates, plain, IsBase, told_by, FewBooked, PairState, AreWithinEntries, State, replay, IsLegal, StoreValue}
use Rattle.strm_pair.specs.Prelude.{Behaviour, stands_of}
use Rattle.strm_pair.specs.declared.streams.Streams.{Streams}
use Rattle.strm_pair.specs.declared.base.Base.{Base}
use Rattle.strm_pair.specs.declared.shelves.Shelf.{Shelf}
use Rattle.strm_pair.specs.declared.journal.Journal.{Journal}
use Rattle.strm_pair.specs.BaseTexts.{IsWritten, start_in}
use Rattle.strm_frame.specs.Hands.{IsWide}
use Rattle.strm_laws.specs.Known.{all_known}
use Rattle.strm_pair.specs.Pairs.{state_in, free_in, journal_of, AreHeld}
use Rattle.strm_pair.specs.Shelves.{IsStocked}
use Rattle.strm_pair.specs.Starts.{Start}

-- the state to which a journal leads from a base
abbrev pub led_to : (K : Behaviour) → Start → Journal → State ℕ
led_to K base journal = replay K plain base.state (journal_of journal)

-- the sizes of a pair over a store, which gives its numbers of blocks
abbrev pub sizes_over : StoreValue → Config → Config
sizes_over s sizes = record sizes { mblks = s.mblks; dblks = s.dblks }

-- the pair that the store, the streams and the journal from its base stand for
abbrev pub pair_of : StoreValue → Streams → Journal → Start → Config → Fates → PairState
pair_of s streams journal base limits fates = record {
  state = state_in s streams;
  base = base.state;
  base_fates = base.fates;
  past = base.past;
  journal = journal_of journal;
  limits = limits;
  free = free_in s;
  fates = fates;
}

-- The blocks stand for the state to which the journal leads from the base, each entry of it is a legal step, and names a band that queues have; no more
-- is booked than a ledger can hold; the numbers that are kept beside the blocks are those of the blocks, and nothing is in hand; what has gone is told
-- by its rules, from what had gone at the base on; there are modules of all names on the streams; and the sizes are those that the pair was made
-- with.
pub record IsKept (K : Behaviour) (s : StoreValue) (streams : Streams) (journal : Journal) (base : Start) (limits : Config)
    (fates : Fates) : Type 0 where
  pub based : IsBase base.state base.fates
  pub replayed : state_in s streams ≡ led_to K base journal
  pub legal : IsLegal K plain base.state (journal_of journal)
  pub within : AreWithinEntries (journal_of journal)
  pub few : FewBooked (state_in s streams)
  pub told : fates ≡ told_by K plain base.state (journal_of journal) base.fates
  pub held : AreHeld s streams
  pub known : all_known K (state_in s streams) ≡ true
  pub mblks : s.mblks ≡ limits.mblks
  pub dblks : s.dblks ≡ limits.dblks
  pub events : journal.most_entries ≡ limits.journal_events
  pub bytes : journal.most_bytes ≡ limits.journal_bytes

-- So it is of each pair from the base of its journal, whose text is written. Its store has as many data blocks as message blocks, where modules of a
-- user's own want that, and its shelf the tables of the queues of modules that may stand there still.
pub record IsWhole (K : Behaviour) (wanted queued : Bool) (s : StoreValue) (streams : Streams) (shelf : Shelf) (journal : Journal) (base : Base) (limits : Config)
    (fates : Fates) : Type 0 where
  pub kept : IsKept K s streams journal (start_in base) limits fates
  pub wide : IsWide wanted s
  pub written : IsWritten base limits
  pub stocked : IsStocked queued shelf (stands_of (state_in s streams))
