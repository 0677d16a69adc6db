-- What is told where the book of a pair is closed.
use Rattle.std.specs.Prelude.{◌≡◌, List, [], ◌∷◌, ◌++◌, slice_index_or}
use Rattle.strm_types.specs.declared.names.Dir.TheVariants.{MasterToSlave, SlaveToMaster}
use Rattle.strm_types.specs.Journal.{PlainEntry}
use Rattle.strm_laws.specs.Ledgers.{ledger_of}
use Rattle.strm_laws.specs.Pair.{PairState, new_pair}
use Rattle.strm_locks.specs.declared.held.Settled.{Settled}
use Rattle.strm_locks.specs.declared.told.Told.{Told}
use Rattle.strm_locks.specs.Books.{Kept, IsCounted, IsReordered, each, history_of, told_of}
use Rattle.strm_locks.specs.Ends.{Share}
use Rattle.strm_locks.specs.Sounds.{IsSound}

-- the ledgers of this pair
pub record ShowsPair (p : PairState) (s : Settled) : Type 0 where
  pub sound : IsSound p
  pub ms : s.ms ≡ ledger_of MasterToSlave p.state p.fates
  pub sm : s.sm ≡ ledger_of SlaveToMaster p.state p.fates

-- what the book of this pair had, which the pair's own numbers and calls are
pub record IsShown (k : Kept) (s : Settled) : Type 0 where
  pub told : s.told ≡ k.book.totals
  pub pair : ShowsPair k.pair s
  pub history : k.book.history ≡ history_of k.pair
  pub numbers : k.book.totals ≡ told_of k.book.totals.calls k.pair
  pub counted : IsCounted k.book.totals.calls k.book.history

-- What one end was told was all: this pair had just these calls, in some order, and just these numbers; and the ledgers are its own.
-- Its calls are those of the entries that its journal had, and before them those of entries that it had no longer.
pub record IsAll (told : Told) (made : List PlainEntry) (pair : PairState) (s : Settled) : Type 0 where
  pub shows : ShowsPair pair s
  pub told_all : s.told ≡ told
  pub calls : IsReordered made (history_of pair)
  pub counted : IsCounted told.calls (history_of pair)
  pub numbers : told ≡ told_of told.calls pair
  pub written : s.told.written ≡ each s.ms.written s.sm.written
  pub read : s.told.read ≡ each (slice_index_or s.ms.fates 0 0) (slice_index_or s.sm.fates 0 0)

-- An end settled the pair that it met last, and left it as new, as nobody opened it. It did nothing else: the pairs that were met since the end's own calls are these two.
pub record IsSettled (e : Share) (s : Settled) (seen : List PairState) : Type 0 where
  pub pair : PairState
  pub all : IsAll e.told e.made pair s
  pub sized : pair.limits ≡ e.lock.sizes
  pub met : seen ≡ e.met ++ pair ∷ [] ++ new_pair pair.limits ∷ []
