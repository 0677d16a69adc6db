use Rattle.std.proofs.Common.{refl, ap}
use Rattle.std.specs.Prelude.{Err, Some}
use Rattle.std.proofs.lemmas.Bool.{true_from_ne_false}
use Rattle.strm_types.specs.declared.refusals.Refusal.TheVariants.{Einval, Enosr}
use Rattle.strm_laws.specs.Refusals.{enough}
use Rattle.strm_pair.specs.Restored.{image_blocks}
use Rattle.strm_pair.specs.Pairs.{free_in}
use Rattle.strm_vectors.proofs.PairRows.{not_refused, pair_over, same_why}
use Rattle.strm_vectors.proofs.pairs.restored.Goals as goal

pub returns-in-Ok-restore-clause-ok : goal.returns-in-Ok-restore-clause-ok
returns-in-Ok-restore-clause-ok g c =
    let found = c.in-Ok-restore.ensures.ok in
    let few = true_from_ne_false (enough (image_blocks found.0) (free_in (g.B.Blocks.value c.in-Ok.store))) (λ short. absurd (not_refused Enosr _ refl (c.in-Ok-restore.ensures.enosr.1 (found.0, (found.1.0, short))))) in
    (found.0, (found.1.0, pair_over found.0 (g.B.Blocks.value c.in-Ok.store) _ c.args.mblks c.args.dblks _ c.in-Ok.ensures refl refl few found.1.1))

pub returns-in-Err-clause-einval : goal.returns-in-Err-clause-einval
returns-in-Err-clause-einval g c is = c.in-Err.ensures.einval.0 (ap Some (same_why (Err c.in-Err.why) c.in-Err.why Einval refl is))
