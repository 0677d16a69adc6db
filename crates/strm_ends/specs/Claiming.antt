-- Minors that are claimed and given back.
use Rattle.std.specs.Prelude.{ℕ, ◌≡◌, ◌+◌, ◌*◌, List, Option, None, Some, Ok, MatchResult, length}
use Rattle.strm_types.specs.declared.refusals.Refusal.TheVariants.{Einval, NoMinor}
use Rattle.strm_minors.specs.Openers.{Holding}
use Rattle.strm_system.specs.declared.opener.HostMinor.{HostMinor}
use Rattle.strm_system.specs.Hosts.{Claims, Passes, Releases}
use Rattle.strm_ends.specs.declared.hold.Hold.TheVariants.{Nothing, Minor, End}
use Rattle.strm_ends.specs.declared.numbers.NotDone.TheVariants.{Refused}
use Rattle.strm_ends.specs.Members.{InHand, Seated, seated}
use Rattle.strm_ends.specs.Outcomes.{Outcome, Refuses}

-- The opener claims the first minor that it finds free: it is in hand, and the number of its pair is told.
pub record IsClaimed (a : Seated) (opener : List Holding) (number : ℕ) (b : Seated) : Type 0 where
  pub minor : HostMinor
  pub behind : List Holding
  pub claimed : Claims a.host opener minor.system minor.minor behind
  pub told : number ≡ minor.system * 64 + minor.minor
  pub left : b ≡ seated a.host (Some behind) (Minor minor)

-- It finds each taken, at its own try: nothing is in hand.
pub record IsPassed (a : Seated) (opener : List Holding) (b : Seated) : Type 0 where
  pub behind : List Holding
  pub passed : Passes a.host opener (length a.host) behind
  pub left : b ≡ seated a.host (Some behind) Nothing

abbrev pub ClaimsBy : Seated → List Holding → (was told : ℕ) → Outcome → Seated → Type 0
ClaimsBy a opener was told r b = MatchResult r (λ _. IsClaimed a opener told b) (λ why. (why ≡ Refused NoMinor) × (told ≡ was) × IsPassed a opener b)

-- EINVAL where something is in hand, and where there is no opener.
abbrev claims_where : Option (List Holding) → InHand → Seated → (was told : ℕ) → Outcome → Seated → Type 0
claims_where None hold a was told r b = Refuses Einval (told ≡ was) a r b
claims_where (Some opener) Nothing a was told r b = ClaimsBy a opener was told r b
claims_where (Some opener) (Minor minor) a was told r b = Refuses Einval (told ≡ was) a r b
claims_where (Some opener) (End system end) a was told r b = Refuses Einval (told ≡ was) a r b

abbrev pub ClaimsMinor : (was told : ℕ) → Seated → Outcome → Seated → Type 0
ClaimsMinor was told a r b = claims_where a.opener a.hold a was told r b

-- The opener gives up the minor that is in hand, and no other opener does anything: nothing is in hand.
pub record IsReleased (a : Seated) (opener : List Holding) (minor : HostMinor) (b : Seated) : Type 0 where
  pub behind : List Holding
  pub released : Releases opener minor.system minor.minor behind
  pub left : b ≡ seated a.host (Some behind) Nothing

abbrev releases_where : Option (List Holding) → InHand → Seated → Outcome → Seated → Type 0
releases_where None hold a r b = Refuses Einval (Unit {0}) a r b
releases_where (Some opener) Nothing a r b = Refuses Einval (Unit {0}) a r b
releases_where (Some opener) (End system end) a r b = Refuses Einval (Unit {0}) a r b
releases_where (Some opener) (Minor minor) a r b = (r ≡ Ok tt) × IsReleased a opener minor b

abbrev pub ReleasesMinor : Seated → Outcome → Seated → Type 0
ReleasesMinor a r b = releases_where a.opener a.hold a r b
