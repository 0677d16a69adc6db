use Rattle.strm_laws.proofs.PtemPuts.{puts-forget}
use Rattle.strm_laws.proofs.ptem_laws.ptem_forgets.Goals as goal

pub returns : goal.returns
returns g c = λ f here m l. puts-forget f here m l
