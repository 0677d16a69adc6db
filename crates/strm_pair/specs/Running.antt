-- Turns made one after the other, of the queue that was enabled first each time.
use Rattle.std.specs.Prelude.{ℕ, ◌≡◌, ◌+◌, length}
use Rattle.strm_laws.specs.Pair.{PairState, RanTurns}
use Rattle.strm_pair.specs.Prelude.{Behaviour}

-- so many were made, and so many more the journal took before
pub record IsRunning (K : Behaviour) (turns left : ℕ) (old new : PairState) : Type 0 where
  pub ran : RanTurns K turns old new
  pub entries : length new.journal ≡ length old.journal + turns
  pub limits : new.limits ≡ old.limits
  pub room : left + length old.journal ≡ old.limits.journal_events
