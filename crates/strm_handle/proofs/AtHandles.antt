-- What is done at the pair of an open handle is done at the handle.
use Rattle.std.proofs.Common.{ℕ, ◌≡◌, sym, subst}
use Rattle.std.specs.Prelude.{Option, Some}
use Rattle.strm_types.specs.declared.refusals.Refusal.{Refusal}
use Rattle.strm_handle.specs.Kept.{KeptPair}
use Rattle.strm_handle.specs.Outcomes.{CallsAt, CallsAtHandle}

pub at-handle : (refusal : KeptPair → Option Refusal) (stays : Type 0) (done : KeptPair → KeptPair → Type 0) (was is : Option KeptPair) (old new : KeptPair) (n : ℕ)
    → was ≡ Some old → is ≡ Some new → CallsAt refusal stays done old new n → CallsAtHandle refusal stays done was is n
at-handle refusal stays done was is old new n before behind told =
    subst (λ o. CallsAtHandle refusal stays done o is n) (sym before) (subst (λ o. CallsAtHandle refusal stays done (Some old) o n) (sym behind) told)
