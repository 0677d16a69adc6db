use Rattle.strm_laws.proofs.WriteSteps.{cells_sent-forgets}
use Rattle.strm_laws.proofs.put_laws.writes_forget_origins.Goals as goal

pub returns : goal.returns
returns g c = λ cells side xs s are. cells_sent-forgets cells are g.K.Behaves.does side xs s
