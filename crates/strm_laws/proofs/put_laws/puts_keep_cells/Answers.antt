use Rattle.strm_laws.proofs.PutsKeep.{puts-keep}
use Rattle.strm_laws.proofs.put_laws.puts_keep_cells.Goals as goal

pub returns : goal.returns
returns g c = λ p cells tests to m s. puts-keep p g.K.Behaves.does cells tests to m s
