-- A pair that is cut by the end in hand: its trace goes behind a handle.
use Rattle.std.specs.Prelude.{ℕ, ◌≡◌, ◌⊎◌, Option, None, Some, Ok, MatchResult}
use Rattle.strm_types.specs.declared.refusals.Refusal.TheVariants.{Einval, NoMemory}
use Rattle.strm_image.specs.declared.trace.Trace.{Trace}
use Rattle.strm_locks.specs.Systems.{Numbered}
use Rattle.strm_locks.specs.Turns.{IsCut, Visited}
use Rattle.strm_ends.specs.declared.hold.Hold.TheVariants.{Nothing, Minor, End}
use Rattle.strm_ends.specs.declared.numbers.NotDone.{NotDone}
use Rattle.strm_ends.specs.declared.numbers.NotDone.TheVariants.{Busy, Refused}
use Rattle.strm_ends.specs.Members.{InHand, Seated}
use Rattle.strm_ends.specs.Outcomes.{AtMember, Outcome, Refuses}

-- The end's pair was cut, by a visit of its own, and this is the trace.
abbrev pub GivesTrace : Numbered → Option Trace → Type 0
GivesTrace e given = (t : Trace) × (given ≡ Some t) × ((v : Visited) × IsCut e.end.lock v (Ok t))

-- No trace is given: another thread has the lock, or memory is refused.
abbrev pub GivesNone : Option Trace → NotDone → Type 0
GivesNone given why = (given ≡ None) × ((why ≡ Busy) ⊎ (why ≡ Refused NoMemory))

-- The member stays, and what its end was told.
abbrev pub CutsBy : Seated → Numbered → Option Trace → Outcome → Seated → Type 0
CutsBy a e given r b = (b ≡ a) × MatchResult r (λ _. GivesTrace e given) (λ why. GivesNone given why)

-- EINVAL where no end is in hand.
abbrev cuts_where : InHand → Seated → Option Trace → Outcome → Seated → Type 0
cuts_where Nothing a given r b = Refuses Einval (given ≡ None) a r b
cuts_where (Minor m) a given r b = Refuses Einval (given ≡ None) a r b
cuts_where (End system e) a given r b = CutsBy a e given r b

abbrev pub CutsEnd : Seated → Option Trace → Outcome → Seated → Type 0
CutsEnd a given r b = cuts_where a.hold a given r b

-- At the handles: EINVAL where that of the trace is open, and all stays.
abbrev pub WithTrace : (old new : Option Seated) → (was given : Option Trace) → ℕ → Type 0
WithTrace old new (Some t) given n = (n ≡ 1) × (new ≡ old) × (given ≡ Some t)
WithTrace old new None given n = AtMember (given ≡ None) (λ a r b. CutsEnd a given r b) old new n
