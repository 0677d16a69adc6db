-- Hosts that are made, and minors that are claimed.
use Rattle.std.proofs.Common.{ℕ, ◌≡◌, ◌+◌, ◌*◌, List, length, refl, sym, subst}
use Rattle.std.specs.Prelude.{Option, None, Some, Ok, Err}
use Rattle.strm_types.specs.declared.limits.Config.{Config}
use Rattle.strm_types.specs.declared.refusals.Refusal.{Refusal}
use Rattle.strm_types.specs.declared.refusals.Refusal.TheVariants.{NoMinor}
use Rattle.strm_types.specs.Numbers.{number_of}
use Rattle.strm_minors.specs.Openers.{Holding}
use Rattle.strm_system.specs.declared.opener.HostMinor.{HostMinor}
use Rattle.strm_system.specs.Hosts.{Claims, Passes}
use Rattle.strm_locks.specs.Systems.{Plan}
use Rattle.strm_system.specs.Sizes.{NotHosted}
use Rattle.strm_ends.specs.declared.hold.Hold.TheVariants.{Nothing, Minor}
use Rattle.strm_ends.specs.declared.numbers.NotDone.TheVariants.{Refused}
use Rattle.strm_ends.specs.Claiming.{ClaimsMinor}
use Rattle.strm_ends.specs.Making.{IsFirst, Makes}
use Rattle.strm_ends.specs.Members.{InHand, Seated, seated}

pub first_made : (pairs : ℕ) (sizes : Config) (m : Seated) (old new : Option Seated) → old ≡ None → new ≡ Some m → IsFirst pairs sizes m
    → Makes pairs sizes old new 0
first_made pairs sizes m old new none is first = subst (λ (o : Option Seated). Makes pairs sizes o new 0) (sym none) (Ok m, first, (refl, is))

pub none_made : (pairs : ℕ) (sizes : Config) (why : Refusal) (old : Option Seated) (n : ℕ) → old ≡ None → n ≡ number_of why
    → NotHosted pairs sizes why → Makes pairs sizes old old n
none_made pairs sizes why old n none told not = subst (λ (o : Option Seated). Makes pairs sizes o o n) (sym none) (Err why, not, (told, refl))

module _ (host : List Plan) (opener : Option (List Holding)) (hold : InHand) (o behind : List Holding) (a : Seated)
    (view : seated host opener hold ≡ a) (is : opener ≡ Some o) (empty : hold ≡ Nothing) (was told : ℕ) where
  pub claimed_by : (m : HostMinor) → Claims host o m.system m.minor behind → told ≡ m.system * 64 + m.minor
      → ClaimsMinor was told a (Ok tt) (seated host (Some behind) (Minor m))
  claimed_by m claims number =
      subst (λ (x : Seated). ClaimsMinor was told x (Ok tt) (seated host (Some behind) (Minor m))) view
      (subst (λ (p : Option (List Holding)). ClaimsMinor was told (seated host p hold) (Ok tt) (seated host (Some behind) (Minor m))) (sym is)
      (subst (λ (h : InHand). ClaimsMinor was told (seated host (Some o) h) (Ok tt) (seated host (Some behind) (Minor m))) (sym empty)
      (record { minor = m; behind = behind; claimed = claims; told = number; left = refl })))

  pub passed_by : told ≡ was → Passes host o (length host) behind → ClaimsMinor was told a (Err (Refused NoMinor)) (seated host (Some behind) hold)
  passed_by same passes =
      subst (λ (x : Seated). ClaimsMinor was told x (Err (Refused NoMinor)) (seated host (Some behind) hold)) view
      (subst (λ (p : Option (List Holding)). ClaimsMinor was told (seated host p hold) (Err (Refused NoMinor)) (seated host (Some behind) hold))
      (sym is)
      (subst (λ (h : InHand). ClaimsMinor was told (seated host (Some o) h) (Err (Refused NoMinor)) (seated host (Some behind) h)) (sym empty)
      (refl, same, record { behind = behind; passed = passes; left = refl })))
