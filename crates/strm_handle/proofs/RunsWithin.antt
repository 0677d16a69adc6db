-- Turns leave heads as they have to be.
use Rattle.std.proofs.Common.{ℕ, zero, suc, ◌≡◌, sym, subst, ap, ◌∙◌}
use Rattle.strm_types.specs.declared.entries.Entry.TheVariants.{Turned}
use Rattle.strm_types.specs.declared.limits.Config.{Config}
use Rattle.strm_laws.proofs.NoOwn.{none as no_own}
use Rattle.strm_laws.specs.Pair.{PairState, RanTurns}
use Rattle.strm_laws.specs.Within.{AreWithin}
use Rattle.strm_handle.specs.Kept.{IsKept, KeptPair, TakesAny}
use Rattle.strm_handle.proofs.Fits.{stays-within}

pub runs-within : (n : ℕ) (old new : PairState) → AreWithin old.state → RanTurns no_own n old new → AreWithin new.state
runs-within zero old new within ran = subst (λ (p : PairState). AreWithin p.state) (sym ran) within
runs-within (suc n) old new within ran =
    stays-within ran.0 new (Turned ran.1.1.name ran.1.1.turn) (runs-within n old ran.0 within ran.1.0) ran.1.1.adds

runs-limits : (n : ℕ) (old new : PairState) → RanTurns no_own n old new → new.limits ≡ old.limits
runs-limits zero old new ran = ap (λ (p : PairState). p.limits) ran
runs-limits (suc n) old new ran = ran.1.1.adds.limits ∙ runs-limits n old ran.0 ran.1.0

pub runs-kept : (n : ℕ) (k : KeptPair) (new : PairState) → IsKept k → RanTurns no_own n k.pair new → IsKept (record k { pair = new })
runs-kept n k new kept ran = record {
  within = runs-within n k.pair new kept.within ran;
  anew = λ is. subst (λ (l : Config). TakesAny l) (sym (runs-limits n k.pair new ran)) (kept.anew is);
}
