-- What workers do, and what they report.
use Rattle.std.specs.Prelude.{◌≡◌, ℕ, zero, suc, ◌+◌, ◌*◌, ◌≤◌, ◌%◌, ⊤, List, [], ◌∷◌, Option, None, Some, Result, Ok, Err, length, map, slice_get, slice_set}
use Rattle.strm_types.specs.declared.answers.Turn.{Turn}
use Rattle.strm_types.specs.declared.answers.Turn.TheVariants.{Blocked}
use Rattle.strm_types.specs.declared.refusals.Refusal.{Refusal}
use Rattle.strm_locks.specs.declared.held.Made.{Made}
use Rattle.strm_locks.specs.declared.workers.Report.{Report}
use Rattle.strm_locks.specs.Books.{LockId}
use Rattle.strm_locks.specs.Turns.{MeetsPair, Posted}

-- a report of one worker that made no visit
abbrev pub begun : Report
begun = record { started = 1; turns = 0; blocked = 0; refused = 0; idle = 0 }

-- the report with one turn more, by its answer
abbrev pub answered : Result Turn Refusal → Report → Report
answered (Ok Blocked) r = record r { turns = r.turns + 1; blocked = r.blocked + 1 }
answered (Ok _) r = record r { turns = r.turns + 1 }
answered (Err _) r = record r { refused = r.refused + 1 }

-- the report with one visit more, by what it made
abbrev pub counted : Option Made → Report → Report
counted None r = record r { idle = r.idle + 1 }
counted (Some m) r = answered m.answer r

-- what two reports say together
abbrev pub both : Report → Report → Report
both r s = record { started = r.started + s.started; turns = r.turns + s.turns; blocked = r.blocked + s.blocked; refused = r.refused + s.refused; idle = r.idle + s.idle }

-- what no worker reports
abbrev pub nobody : Report
nobody = record { started = 0; turns = 0; blocked = 0; refused = 0; idle = 0 }

-- a report of so many workers with so many visits each: each visit is counted once, as a turn, as a refused one, or as one that found no queue enabled
pub record IsReportOf (workers visits : ℕ) (r : Report) : Type 0 where
  pub started : r.started ≡ workers
  pub blocked : r.blocked ≤ r.turns
  pub all : r.turns + r.refused + r.idle ≡ workers * visits

-- A worker has a seat at each lock of a system, by its number: whatever it does at a pair, its seat there met.
abbrev pub at_rest : LockId → Posted
at_rest lock = record { lock = lock; met = [] }

abbrev pub AreAt : List LockId → List Posted → Type 0
AreAt locks posts = map (λ p. p.lock) posts ≡ locks

abbrev pub AreCrew : List LockId → List (List Posted) → Type 0
AreCrew locks [] = ⊤
AreCrew locks (w ∷ more) = AreAt locks w × AreCrew locks more

-- a worker's visit to the pair of this number, which makes this: its seat there met that pair, and no other seat met any
pub record Meets (a : List Posted) (pair : ℕ) (made : Option Made) (b : List Posted) : Type 0 where
  pub before : Posted
  pub behind : Posted
  pub here : slice_get a pair ≡ Some before
  pub meets : MeetsPair before made behind
  pub others : b ≡ slice_set a pair behind

-- So many visits of the worker of this number, which make its seats b of a, and what it reports: each visit to the next pair, round by round, first to the one of the worker's number. The report
-- counts each by what it made.
abbrev pub Tours : ℕ → ℕ → ℕ → List Posted → Report → List Posted → Type 0
Tours pairs worker zero a r b = (b ≡ a) × (r ≡ begun)
Tours pairs worker (suc n) a r b = (m : List Posted) × (q : Report) × (made : Option Made) × Tours pairs worker n a q m × Meets m ((worker + n) % pairs) made b × (r ≡ counted made q)

-- so many visits, or none where there is no pair
abbrev pub visits_at : ℕ → ℕ → ℕ
visits_at zero visits = 0
visits_at (suc pairs) visits = visits

-- the visits of the worker of this number, what it reports of them, and that its seats are at these locks still
pub record Serves (locks : List LockId) (worker visits : ℕ) (a : List Posted) (r : Report) (b : List Posted) : Type 0 where
  pub tours : Tours (length locks) worker (visits_at (length locks) visits) a r b
  pub own : AreAt locks b
  pub counted : IsReportOf 1 (visits_at (length locks) visits) r

-- what several reports say together
abbrev pub total : List Report → Report
total [] = nobody
total (r ∷ rs) = both r (total rs)

-- workers from this number on, each of which makes so many visits, and what they report together
abbrev pub Works : ℕ → ℕ → ℕ → List (List Posted) → Report → List (List Posted) → Type 0
Works pairs visits first [] r bs = (bs ≡ []) × (r ≡ nobody)
Works pairs visits first (a ∷ more) r bs = (b : List Posted) × (rest : List (List Posted)) × (q : Report) × (s : Report) × (bs ≡ b ∷ rest) × Tours pairs first visits a q b
    × Works pairs visits (suc first) more s rest × (r ≡ both q s)
