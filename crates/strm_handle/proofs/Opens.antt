-- A handle that says that something is there holds it, and one that says that nothing is there holds none.
use Rattle.std.proofs.Common.{◌≡◌, refl, subst}
use Rattle.std.specs.Prelude.{T, not, true, false, is_some, Option, None, Some}
use Rattle.strm_handle.specs.Held.{IsOpen}

pub opens : {A : Type 0} (kept : Option A) → is_some kept ≡ true → IsOpen kept
opens None is = subst (λ b. T (not b)) is tt
opens (Some kept) is = tt

pub closes : {A : Type 0} (kept : Option A) → is_some kept ≡ false → kept ≡ None
closes None is = refl
closes (Some kept) is = absurd (subst (λ b. T b) is tt)

-- what is held, where something is
pub opened : {A : Type 0} (kept : Option A) → IsOpen kept → A
opened None is_open = absurd is_open
opened (Some kept) is_open = kept

pub opened-is : {A : Type 0} (kept : Option A) (is_open : IsOpen kept) → kept ≡ Some (opened kept is_open)
unfolding opened
opened-is None is_open = absurd is_open
opened-is (Some kept) is_open = refl
