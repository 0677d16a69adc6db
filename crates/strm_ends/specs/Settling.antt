-- A pair that is settled by the end in hand, and one whose journal begins anew.
use Rattle.std.specs.Prelude.{ℕ, ◌≡◌, ◌≢◌, ◌⊎◌, None, Some, MatchResult}
use Rattle.strm_types.specs.declared.refusals.Refusal.TheVariants.{Einval, StillShared}
use Rattle.strm_system.specs.declared.opener.HostMinor.{HostMinor}
use Rattle.strm_locks.specs.declared.end.TheConstants.{ALL_PARTS}
use Rattle.strm_locks.specs.declared.held.Settled.{Settled}
use Rattle.strm_locks.specs.Settles.{IsSettled}
use Rattle.strm_locks.specs.Systems.{Numbered}
use Rattle.strm_locks.specs.Turns.{IsRestart, Visited}
use Rattle.strm_handle.specs.Outcomes.{books_told}
use Rattle.strm_ends.specs.declared.accounts.Account.{Account}
use Rattle.strm_ends.specs.declared.hold.Hold.TheVariants.{Nothing, Minor, End}
use Rattle.strm_ends.specs.declared.numbers.NotDone.{NotDone}
use Rattle.strm_ends.specs.declared.numbers.NotDone.TheVariants.{Busy, Refused}
use Rattle.strm_ends.specs.Members.{InHand, Seated, lock_in}
use Rattle.strm_ends.specs.Opening.{with_hold}
use Rattle.strm_ends.specs.Outcomes.{Outcome, Refuses}
use Rattle.strm_ends.specs.Sharing.{sums_told}

-- the numbers and ledgers of a pair, as a C program is told them
abbrev pub account_told : Account → Settled
account_told account = record { told = sums_told account.told; ms = books_told account.ms; sm = books_told account.sm }

-- the minor of a pair
abbrev pub minor_of : ℕ → ℕ → HostMinor
minor_of system pair = record { system = system; minor = pair }

-- The end had all parts and the minor, and settled its pair: what it was told is told, with the ledgers, and the minor is in hand.
pub record IsSettledBy (a : Seated) (system : ℕ) (e : Numbered) (account : Account) (b : Seated) : Type 0 where
  pub parts : e.end.parts ≡ ALL_PARTS
  pub minor : e.minor ≡ Some e.pair
  pub visit : Visited
  pub there : lock_in a.host system e.pair ≡ Some visit.lock
  pub settled : IsSettled e.end (account_told account) visit.met
  pub left : b ≡ with_hold (Minor (minor_of system e.pair)) a

-- It lacks parts or the minor, whether the lock is free or not; or another thread has the lock.
abbrev pub NotSettled : Numbered → NotDone → Type 0
NotSettled e Busy = (e.end.parts ≡ ALL_PARTS) × (e.minor ≢ None)
NotSettled e (Refused refusal) = (refusal ≡ StillShared) × ((e.end.parts ≢ ALL_PARTS) ⊎ (e.minor ≡ None))

abbrev pub SettlesBy : Seated → ℕ → Numbered → (was account : Account) → Outcome → Seated → Type 0
SettlesBy a system e was account r b =
    MatchResult r (λ _. IsSettledBy a system e account b) (λ why. (account ≡ was) × (b ≡ with_hold (End system e) a) × NotSettled e why)

-- EINVAL where no end is in hand.
abbrev settles_where : InHand → Seated → (was account : Account) → Outcome → Seated → Type 0
settles_where Nothing a was account r b = Refuses Einval (account ≡ was) a r b
settles_where (Minor m) a was account r b = Refuses Einval (account ≡ was) a r b
settles_where (End system e) a was account r b = SettlesBy a system e was account r b

abbrev pub Settles : (was account : Account) → Seated → Outcome → Seated → Type 0
Settles was account a r b = settles_where a.hold a was account r b

-- The journal of the end's pair begins anew, by a visit of its own, and the member stays; or another thread has the lock.
abbrev pub RestartsBy : Seated → Numbered → Outcome → Seated → Type 0
RestartsBy a e r b = (b ≡ a) × MatchResult r (λ _. (v : Visited) × IsRestart e.end.lock v) (λ why. why ≡ Busy)

abbrev restarts_where : InHand → Seated → Outcome → Seated → Type 0
restarts_where Nothing a r b = Refuses Einval (Unit {0}) a r b
restarts_where (Minor m) a r b = Refuses Einval (Unit {0}) a r b
restarts_where (End system e) a r b = RestartsBy a e r b

abbrev pub Restarts : Seated → Outcome → Seated → Type 0
Restarts a r b = restarts_where a.hold a r b
