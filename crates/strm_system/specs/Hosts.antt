-- A host is its systems, by number; its opener has an opener of each. What is told of a claim and of a release.
use Rattle.std.specs.Prelude.{◌≡◌, ℕ, zero, suc, ◌<◌, List, Some, length, map, slice_get, slice_set}
use Rattle.strm_minors.specs.Openers.{Gains, Holding, Holds, Loses, opening, past}
use Rattle.strm_locks.specs.Systems.{Plan}

-- the openers are of these systems, one of each
abbrev pub AreOf : List Plan → List Holding → Type 0
AreOf host openers = map (λ o. o.table) openers ≡ map (λ s. s.minors.table) host

-- an opener of each of these systems, which hold nothing
abbrev pub all_opening : List Plan → List Holding
all_opening host = map (λ s. opening s.minors) host

-- the opener of the system of this number found its first free minor, and no other opener did anything
pub record Finds (host : List Plan) (old : List Holding) (system minor : ℕ) (new : List Holding) : Type 0 where
  pub plan : Plan
  pub there : slice_get host system ≡ Some plan
  pub within : minor < length plan.locks
  pub before : Holding
  pub behind : Holding
  pub here : slice_get old system ≡ Some before
  pub claimed : Gains (past minor before) behind minor
  pub others : new ≡ slice_set old system behind

-- the opener of the system of this number found each of its minors taken, and no other opener did anything
pub record FindsNone (host : List Plan) (old : List Holding) (system : ℕ) (new : List Holding) : Type 0 where
  pub plan : Plan
  pub there : slice_get host system ≡ Some plan
  pub before : Holding
  pub here : slice_get old system ≡ Some before
  pub others : new ≡ slice_set old system (past (length plan.locks) before)

-- the openers of the first n systems found each minor there taken, one system after the other
abbrev pub Passes : List Plan → List Holding → ℕ → List Holding → Type 0
Passes host old zero new = new ≡ old
Passes host old (suc n) new = (mid : List Holding) × Passes host old n mid × FindsNone host mid n new

-- a claim of this minor: each minor of the systems before its own was found taken, and then it is the first that was found free in its own
abbrev pub Claims : List Plan → List Holding → ℕ → ℕ → List Holding → Type 0
Claims host old system minor new = (mid : List Holding) × Passes host old system mid × Finds host mid system minor new

-- the opener of the system holds the minor
abbrev pub HoldsAt : List Holding → ℕ → ℕ → Type 0
HoldsAt openers system minor = (o : Holding) × (slice_get openers system ≡ Some o) × Holds o minor

-- the opener of the system gives the minor up, and no other opener does anything
pub record Releases (old : List Holding) (system minor : ℕ) (new : List Holding) : Type 0 where
  pub before : Holding
  pub behind : Holding
  pub here : slice_get old system ≡ Some before
  pub lost : Loses before behind minor
  pub others : new ≡ slice_set old system behind
