use Rattle.strm_types.proofs.PtemWithin.{ptem-within}
use Rattle.strm_laws.proofs.ptem_laws.ptem_keeps_its_table.Goals as goal

pub returns : goal.returns
returns g c = λ here m l. ptem-within here m l
