-- The base of a journal: the state at which it begins, and how many bytes had gone by each rule there.
use Rattle.std.specs.Prelude.{ℕ}
use Rattle.strm_laws.specs.Prelude.{Dir, Fates}
use Rattle.strm_laws.specs.Ledgers.{Balanced, FewBooked}
use Rattle.strm_laws.specs.Restorable.{Restorable}
use Rattle.strm_laws.specs.State.{AreOrdered, State}

-- What every base has: each queue is in order of rank, an image may hold it, the numbers of both ledgers agree, and no count of a ledger has
-- gone round.
pub record IsBase (s : State ℕ) (fates : Fates) : Type 0 where
  pub ordered : AreOrdered s
  pub restorable : Restorable s
  pub balanced : (dir : Dir) → Balanced dir s fates
  pub few : FewBooked s
