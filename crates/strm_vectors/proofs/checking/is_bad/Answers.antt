use Rattle.std.proofs.Common.{◌∙◌, ap}
use Rattle.std.specs.Prelude.{Some}
use Rattle.strm_vectors.proofs.PairRows.{on_ok}
use Rattle.strm_vectors.proofs.checking.is_bad.Goals as goal

pub returns-in-Some : goal.returns-in-Some
returns-in-Some g c = on_ok c.says_no_image.result _ _ (λ same. c.refusal.ensures (c.in-Some.is ∙ ap Some same)) c.says_no_image.ensures
