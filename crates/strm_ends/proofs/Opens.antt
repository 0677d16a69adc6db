-- A handle that says that a pair is there holds one, and one that says that none is there holds none.
use Rattle.std.proofs.Common.{◌≡◌, refl, subst}
use Rattle.std.specs.Prelude.{T, not, true, false, is_some, None, Some}
use Rattle.strm_ends.specs.Held.{KeptValue, IsOpen}

pub opens : (kept : KeptValue) → is_some kept ≡ true → IsOpen kept
opens None is = subst (λ b. T (not b)) is tt
opens (Some kept) is = tt

pub closes : (kept : KeptValue) → is_some kept ≡ false → kept ≡ None
closes None is = refl
closes (Some kept) is = absurd (subst (λ b. T b) is tt)
