-- Visits to any pair of a member's host, by its number: turns, looks and audits. The member stays.
use Rattle.std.specs.Prelude.{ℕ, ◌≡◌, ◌≤◌, Option, None, Some, Result, Ok, Err, MatchResult, slice_get}
use Rattle.strm_types.specs.declared.answers.Turn.{Turn}
use Rattle.strm_types.specs.declared.names.Side.{Side}
use Rattle.strm_types.specs.declared.refusals.Refusal.{Refusal}
use Rattle.strm_types.specs.declared.refusals.Refusal.TheVariants.{Einval}
use Rattle.strm_types.specs.Numbers.{number_of}
use Rattle.strm_laws.proofs.NoOwn.{none as no_own}
use Rattle.strm_laws.specs.Pair.{PairState}
use Rattle.strm_laws.specs.Refusals.{enough}
use Rattle.strm_pair.specs.Readiness.{readiness}
use Rattle.strm_locks.specs.declared.held.Made.{Made}
use Rattle.strm_locks.specs.Audits.{IsAudited}
use Rattle.strm_locks.specs.Books.{LockId}
use Rattle.strm_locks.specs.Turns.{IsLook, IsVisit, Visited}
use Rattle.strm_handle.specs.Numbers.{queue_at, queue_told, side_at, turn_at}
use Rattle.strm_handle.specs.Ready.{bits_of}
use Rattle.strm_ends.specs.declared.accounts.Account.{Account}
use Rattle.strm_ends.specs.declared.accounts.Prospect.{Prospect}
use Rattle.strm_ends.specs.declared.accounts.Visit.{Visit}
use Rattle.strm_ends.specs.declared.numbers.NotDone.TheVariants.{Busy}
use Rattle.strm_ends.specs.Members.{Seated, lock_at}
use Rattle.strm_ends.specs.Outcomes.{Outcome, Refuses}
use Rattle.strm_ends.specs.Settling.{account_told}

-- A visit is made under this lock, or another thread has it, and what the caller's pointer leads to stays.
abbrev pub VisitsAs : Type 0 → Type 0 → Seated → Outcome → Seated → Type 0
VisitsAs stays made a r b = (b ≡ a) × MatchResult r (λ _. made) (λ why. (why ≡ Busy) × stays)

-- EINVAL for a number that is no pair's.
abbrev pub VisitsPair : Option LockId → Type 0 → (LockId → Type 0) → Seated → Outcome → Seated → Type 0
VisitsPair None stays made a r b = Refuses Einval stays a r b
VisitsPair (Some lock) stays made a r b = VisitsAs stays (made lock) a r b

-- A turn, as a C program is told it: its queue, what it did, or its refusal; no queue where none was enabled.
abbrev pub answer_told : Result Turn Refusal → Visit → Type 0
answer_told (Ok turn) v = (v.refusal ≡ 0) × (turn_at v.went.kind v.went.moved ≡ Some turn)
answer_told (Err refusal) v = (v.refusal ≡ number_of refusal) × (v.went ≡ record { kind = 0; moved = 0 })

abbrev pub TellsVisit : Option Made → Visit → Type 0
TellsVisit None v = v ≡ record { queue = 12; refusal = 0; went = record { kind = 0; moved = 0 } }
TellsVisit (Some made) v = (queue_told v.queue ≡ Some made.queue) × answer_told made.answer v

abbrev pub TurnsFirst : ℕ → (was told : Visit) → Seated → Outcome → Seated → Type 0
TurnsFirst pair was told a r b =
    VisitsPair (lock_at a.host pair) (told ≡ was) (λ lock. (v : Visited) × IsVisit lock v × TellsVisit v.made told) a r b

-- What a side of the pair is ready for, as strm_ready tells it of a pair without a reserve, and which queue is enabled first.
abbrev pub IsReady : LockId → Side → Prospect → Type 0
IsReady lock side told = (v : Visited) × (p : PairState) × IsLook lock v p × (told.bits ≡ bits_of (readiness no_own side p.state) (enough 36 p.free))
    × (queue_at told.queue ≡ slice_get p.state.enabled 0) × (told.queue ≤ 12)

abbrev pub LooksOf : Option Side → ℕ → (was told : Prospect) → Seated → Outcome → Seated → Type 0
LooksOf None pair was told a r b = Refuses Einval (told ≡ was) a r b
LooksOf (Some side) pair was told a r b = VisitsPair (lock_at a.host pair) (told ≡ was) (λ lock. IsReady lock side told) a r b

abbrev pub Looks : (pair side : ℕ) → (was told : Prospect) → Seated → Outcome → Seated → Type 0
Looks pair side was told a r b = LooksOf (side_at side) pair was told a r b

-- All that an audit tells of the pair: what was told of it so far, and its ledgers.
abbrev pub Audits : ℕ → (was account : Account) → Seated → Outcome → Seated → Type 0
Audits pair was account a r b = VisitsPair (lock_at a.host pair) (account ≡ was)
    (λ lock. (v : Visited) × (v.lock ≡ lock) × (let s = account_told account in IsAudited v s.told s.ms s.sm)) a r b
