use Rattle.strm_laws.proofs.BaseSteps.{base-on, opening-base}
use Rattle.strm_laws.proofs.restore_laws.bases_stay.Goals as goal

pub returns-clause-opening : goal.returns-clause-opening
returns-clause-opening g c = opening-base

pub returns-clause-journal : goal.returns-clause-journal
returns-clause-journal g c = λ s fates es base within legal few. base-on g.K.Behaves.does s fates es base within legal few
