-- What an audit tells of the pair that it found.
use Rattle.std.specs.Prelude.{◌≡◌, ℕ, [], ◌∷◌, None}
use Rattle.strm_types.specs.declared.ledger.Ledger.{Ledger}
use Rattle.strm_laws.specs.Pair.{PairState}
use Rattle.strm_locks.specs.declared.told.Told.{Told}
use Rattle.strm_locks.specs.Books.{IsCounted, book_with, history_of, told_of}
use Rattle.strm_locks.specs.Rules.{AreToldOf}
use Rattle.strm_locks.specs.Settles.{ShowsPair}
use Rattle.strm_locks.specs.Turns.{Visited}

-- the visit found a pair of which this holds, and left it as it was; it made no turn
abbrev pub Found : Visited → (PairState → Type 0) → Type 0
Found v holds = (p : PairState) × (v.met ≡ p ∷ p ∷ []) × (v.made ≡ None) × holds p

-- what is told is this pair's own: the number of its calls since it was opened, and the bytes that they wrote and read
abbrev pub IsBookOf : PairState → Told → Type 0
IsBookOf p told = (told ≡ told_of told.calls p) × IsCounted told.calls (history_of p)

-- what the seats of this pair were told adds up to this, and their entries are its calls
abbrev pub AreTold : PairState → Told → Type 0
AreTold p told = (left : ℕ) × AreToldOf (book_with told (history_of p) left)

-- all that an audit tells
pub record IsAudited (v : Visited) (told : Told) (ms sm : Ledger) : Type 0 where
  pub pair : PairState
  pub met : v.met ≡ pair ∷ pair ∷ []
  pub made : v.made ≡ None
  pub sized : pair.limits ≡ v.lock.sizes
  pub shows : ShowsPair pair record { told = told; ms = ms; sm = sm }
  pub book : IsBookOf pair told
  pub ends : AreTold pair told
