use Rattle.strm_laws.proofs.PutsForget.{puts-forget}
use Rattle.strm_laws.proofs.put_laws.puts_forget_origins.Goals as goal

pub returns : goal.returns
returns g c = λ cells are to m s. puts-forget cells are g.K.Behaves.does to m s
