-- What a member has of a host, and what holds of it between any two calls.
use Rattle.std.specs.Prelude.{ℕ, ◌≡◌, ◌≤◌, ◌/◌, ◌%◌, Bool, true, false, List, [], length, Option, None, Some, IfSome, IsSome, option_and_then, slice_get}
use Rattle.strm_system.specs.declared.opener.HostMinor.{HostMinor}
use Rattle.strm_system.specs.Hosts.{AreOf, HoldsAt}
use Rattle.strm_minors.specs.Openers.{Holding}
use Rattle.strm_locks.specs.Books.{LockId}
use Rattle.strm_locks.specs.Systems.{Numbered, Plan}
use Rattle.strm_ends.specs.declared.hold.Hold.{Hold}
use Rattle.strm_ends.specs.declared.hold.Hold.TheVariants.{Nothing, Minor, End}

-- nothing, a minor, or an end of a pair of this system
abbrev pub InHand : Type 0
InHand = Hold Numbered

-- a member: its host, by the systems of it, its opener of minors, and what it has in hand
pub record Seated : Type 0 where
  pub host : List Plan
  pub opener : Option (List Holding)
  pub hold : InHand

abbrev pub seated : List Plan → Option (List Holding) → InHand → Seated
seated host opener hold = record { host = host; opener = opener; hold = hold }

-- the lock of a pair, by the number of its system and its own there
abbrev pub lock_in : List Plan → ℕ → ℕ → Option LockId
lock_in host system pair = option_and_then (λ plan. slice_get plan.locks pair) (slice_get host system)

-- the lock of a pair by its number in the host, of which a system has 64
abbrev pub lock_at : List Plan → ℕ → Option LockId
lock_at host pair = lock_in host (pair / 64) (pair % 64)

-- a minor is that of a pair of the host, and the opener holds it
abbrev pub HoldsMinor : List Plan → Option (List Holding) → HostMinor → Type 0
HoldsMinor host None m = ⊥
HoldsMinor host (Some opener) m = IsSome (lock_in host m.system m.minor) × HoldsAt opener m.system m.minor

-- an end without an opener has no minor; one beside an opener has one that the opener holds
abbrev pub HasMinor : Option (List Holding) → ℕ → Option ℕ → Type 0
HasMinor None system None = Unit {0}
HasMinor (Some opener) system (Some minor) = HoldsAt opener system minor
HasMinor _ system _ = ⊥

abbrev pub HasEnd : List Plan → Option (List Holding) → ℕ → Numbered → Type 0
HasEnd host opener system e = (lock_in host system e.pair ≡ Some e.end.lock) × HasMinor opener system e.minor

abbrev pub HasInHand : List Plan → Option (List Holding) → InHand → Type 0
HasInHand host opener Nothing = Unit {0}
HasInHand host opener (Minor m) = HoldsMinor host opener m
HasInHand host opener (End system e) = HasEnd host opener system e

-- an end is in hand
abbrev pub is_end : InHand → Bool
is_end Nothing = false
is_end (Minor m) = false
is_end (End system e) = true

-- what holds of a member and of its room for an answer
pub record IsMember (m : Seated) (answer : List ℕ) : Type 0 where
  pub few : length m.host ≤ 1024
  pub own : IfSome m.opener (λ opener. AreOf m.host opener)
  pub hand : HasInHand m.host m.opener m.hold
  pub clear : answer ≡ []
