-- The pair's refusals are told, over a store that is new.
use Rattle.std.proofs.Common.{◌≡◌, ◌∙◌, ap, subst, false}
use Rattle.std.specs.Prelude.{Some}
use Rattle.strm_types.specs.declared.limits.Config.{Config}
use Rattle.strm_types.specs.declared.refusals.Refusal.TheVariants.{Einval, Enosr}
use Rattle.strm_laws.specs.Refusals.{Free, enough}
use Rattle.strm_pair.specs.Restored.{image_blocks}
use Rattle.strm_pair.specs.Pairs.{free_in}
use Rattle.strm_pair.proofs.Shown.{free-empty}
use Rattle.strm_handle.proofs.restoring.kept_of.Goals as goal

pub returns-in-Err-clause-einval : goal.returns-in-Err-clause-einval
returns-in-Err-clause-einval c is = let same : Some c.in-Err.why ≡ Some Einval = cc in c.in-Err.ensures.einval.0 same

pub returns-in-Err-clause-enosr : goal.returns-in-Err-clause-enosr
returns-in-Err-clause-enosr c is =
    let same : Some c.in-Err.why ≡ Some Enosr = cc in
    let found = c.in-Err.ensures.enosr.0 same in
    let sizes : Config = c.sizes-sizes.result in
    let all = ap free_in c.in-Ok.ensures ∙ (free-empty sizes.mblks sizes.dblks ∙ ap (λ (s : Config). record { mblks = s.mblks; dblks = s.dblks }) c.sizes-sizes.ensures) in
    (found.0, (found.1.0, subst (λ (f : Free). enough (image_blocks found.0) f ≡ false) all found.1.1))
