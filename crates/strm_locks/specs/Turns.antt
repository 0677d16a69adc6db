-- What is done to a pair under its lock beside calls, and what a visit tells of it.
use Rattle.std.specs.Prelude.{◌≡◌, List, [], ◌∷◌, ◌++◌, Option, None, Some, Result, Err, IsOk, IfOk, MatchOption, MatchResult, slice_get}
use Rattle.strm_types.specs.declared.entries.Entry.TheVariants.{Turned}
use Rattle.strm_types.specs.declared.refusals.NoMemory.{NoMemory}
use Rattle.strm_types.specs.declared.refusals.Refusal.{Refusal}
use Rattle.strm_laws.proofs.NoOwn.{none as no_own}
use Rattle.strm_laws.specs.Pair.{PairState, AddsEntry, Stops, queue_refused, restarted}
use Rattle.strm_image.specs.declared.trace.Trace.{Trace}
use Rattle.strm_image.specs.Traces.{IsTrace}
use Rattle.strm_locks.specs.declared.held.Made.{Made}
use Rattle.strm_locks.specs.Books.{LockId}
use Rattle.strm_locks.specs.Shares.{IsShut}
use Rattle.strm_locks.specs.Sounds.{IsSoundAt}

-- The pair p makes this turn and becomes q: of the queue that was enabled first, with the pair's own answer. The turn is an entry of the journal then, and stops within its message where it may; a refused one leaves the pair
pub record Makes (p : PairState) (m : Made) (q : PairState) : Type 0 where
  pub first : slice_get p.state.enabled 0 ≡ Some m.queue
  pub refused : MatchOption (queue_refused p m.queue) (IsOk m.answer) (λ r. (m.answer ≡ Err r) × (q ≡ p))
  pub adds : IfOk m.answer (λ t. AddsEntry no_own p q (Turned m.queue t))
  pub stops : IfOk m.answer (λ t. Stops p q m.queue t)

-- a visit to the pair p, which becomes q: one turn, or none where no queue is enabled
abbrev pub Visits : PairState → Option Made → PairState → Type 0
Visits p made q = MatchOption made ((slice_get p.state.enabled 0 ≡ None) × (q ≡ p)) (λ m. Makes p m q)

-- a visit, as contracts see it: its lock, the pair as it found it and as it left it, and the turn that it made
pub record Visited : Type 0 where
  pub lock : LockId
  pub met : List PairState
  pub made : Option Made

-- a seat that was told nothing, by what it met: its lock, and two pairs for each visit, as it found the lock's pair, and as it left it
pub record Posted : Type 0 where
  pub lock : LockId
  pub met : List PairState

-- one visit more: the seat met the pair of its lock, and what lies between is its turn
pub record MeetsPair (a : Posted) (made : Option Made) (b : Posted) : Type 0 where
  pub found : PairState
  pub left : PairState
  pub sound : IsSoundAt a.lock found
  pub visits : Visits found made left
  pub met : b ≡ record a { met = a.met ++ found ∷ [] ++ left ∷ [] }

-- the visit was made under this lock: it found a pair and left another, and what lies between is its turn
abbrev pub IsVisit : LockId → Visited → Type 0
IsVisit lock v = (v.lock ≡ lock) × (p : PairState) × (q : PairState) × (v.met ≡ p ∷ q ∷ []) × IsSoundAt lock p × Visits p v.made q

-- the visit was made under this lock, and the pair that it found begins its journal anew; it made no turn
abbrev pub IsRestart : LockId → Visited → Type 0
IsRestart lock v = (v.lock ≡ lock) × (p : PairState) × (v.met ≡ p ∷ restarted p ∷ []) × IsSoundAt lock p × (v.made ≡ None)

-- The pair p hands out this trace of itself, and begins its journal anew; or memory is refused, and it stays
abbrev pub Cuts : PairState → Result Trace NoMemory → PairState → Type 0
Cuts p r q = MatchResult r (λ t. IsTrace p t × (q ≡ restarted p)) (λ _. q ≡ p)

-- The visit was made under this lock, and cut the pair that it found; it made no turn. The trace is of that pair, so its entries are legal from its base.
abbrev pub IsCut : LockId → Visited → Result Trace NoMemory → Type 0
IsCut lock v r = (v.lock ≡ lock) × (p : PairState) × (q : PairState) × (v.met ≡ p ∷ q ∷ []) × IsSoundAt lock p × Cuts p r q × (v.made ≡ None)

-- the visit was made under this lock, and found a pair that it left as it was, as it doesn't open; it made no turn
abbrev pub IsRefusedOpen : LockId → Visited → Refusal → Type 0
IsRefusedOpen lock v z = (v.lock ≡ lock) × (p : PairState) × (v.met ≡ p ∷ p ∷ []) × IsSoundAt lock p × IsShut p z × (v.made ≡ None)

-- the visit was made under this lock, found this pair and left it as it was; it made no turn
abbrev pub IsLook : LockId → Visited → PairState → Type 0
IsLook lock v p = (v.lock ≡ lock) × (v.met ≡ p ∷ p ∷ []) × IsSoundAt lock p × (v.made ≡ None)
