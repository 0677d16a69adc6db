use Rattle.strm_laws.proofs.PcktKeeps.{puts-forget}
use Rattle.strm_types.proofs.PcktPuts.{puts-same}
use Rattle.strm_laws.proofs.pckt_laws.pckt_forgets.Goals as goal

pub returns-clause-forgets : goal.returns-clause-forgets
returns-clause-forgets g c = λ cells made here m are. puts-forget cells are made here m

pub returns-clause-plain : goal.returns-clause-plain
returns-clause-plain g c = λ a b here m. puts-same a b here m
