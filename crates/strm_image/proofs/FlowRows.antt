-- The flow control of a band is exact.
use Rattle.std.proofs.Common.{◌≡◌, Bool, true, false, refl, sym}
use Rattle.strm_image.specs.Format.{IsExact}
use Rattle.strm_image.specs.Messages.{any}
use Rattle.strm_image.specs.Queues.{marks_fit, flow_of, flow_parts, flow, same_bool}
use Rattle.strm_image.proofs.CodeRows.{flag_exact}
use Rattle.strm_image.proofs.Formats.{u32_exact, only_exact, then_exact, made_exact}

pub same_bool_is : (a b : Bool) → same_bool a b ≡ true → a ≡ b
same_bool_is true b e = sym e
same_bool_is false true e = absurd cc
same_bool_is false false e = refl

pub same_bool_refl : (a : Bool) → same_bool a a ≡ true
same_bool_refl true = refl
same_bool_refl false = refl

pub flow_exact : IsExact flow
unfolding flow
flow_exact = made_exact any flow_of flow_parts _ (only_exact _ (then_exact _ _ u32_exact (then_exact _ _ u32_exact flag_exact)) marks_fit) (record { back = λ x fits. (refl, refl); whole = λ y shape. refl })
