-- What is answered at a member, and what that says of it.
use Rattle.std.specs.Prelude.{ℕ, ◌≡◌, Option, None, Some, Result, Ok, Err}
use Rattle.strm_types.specs.declared.refusals.Refusal.{Refusal}
use Rattle.strm_types.specs.Numbers.{number_of}
use Rattle.strm_ends.specs.declared.numbers.NotDone.{NotDone}
use Rattle.strm_ends.specs.declared.numbers.NotDone.TheVariants.{Busy, Refused}
use Rattle.strm_ends.specs.Members.{Seated}

abbrev pub Outcome : Type 0
Outcome = Result (Unit {0}) NotDone

-- the number of an outcome: 0, that of a refusal, or 12 where another thread has the lock of the pair
abbrev pub number_told : Outcome → ℕ
number_told (Ok _) = 0
number_told (Err Busy) = 12
number_told (Err (Refused refusal)) = number_of refusal

-- the second member that a step gives, where it is done
abbrev pub made_where : Outcome → Seated → Option Seated
made_where (Ok _) second = Some second
made_where (Err _) second = None

-- It is refused by this name: the member stays, and what the caller's pointers lead to.
abbrev pub Refuses : Refusal → Type 0 → Seated → Outcome → Seated → Type 0
Refuses refusal stays a r b = (r ≡ Err (Refused refusal)) × (b ≡ a) × stays

-- What is done at an open member, which stays open, and the number that is told; a closed one is EINVAL, and all stays.
abbrev pub AtMember : Type 0 → (Seated → Outcome → Seated → Type 0) → Option Seated → Option Seated → ℕ → Type 0
AtMember stays done None None n = (n ≡ 1) × stays
AtMember stays done (Some a) (Some b) n = (r : Outcome) × (n ≡ number_told r) × done a r b
AtMember stays done _ _ n = ⊥

-- The same of what makes a second member: EINVAL where that is open, and all stays.
abbrev pub WithMade : (Seated → Option Seated → Outcome → Seated → Type 0) → (old new made given : Option Seated) → ℕ → Type 0
WithMade done old new (Some k) given n = (n ≡ 1) × (new ≡ old) × (given ≡ Some k)
WithMade done old new None given n = AtMember (given ≡ None) (λ a r b. done a given r b) old new n
