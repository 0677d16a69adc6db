use Rattle.strm_laws.proofs.WriteSteps.{cells_sent-keeps}
use Rattle.strm_laws.proofs.put_laws.writes_keep_cells.Goals as goal

pub returns : goal.returns
returns g c = λ p cells side xs s tests. cells_sent-keeps cells p side g.K.Behaves.does tests xs s
