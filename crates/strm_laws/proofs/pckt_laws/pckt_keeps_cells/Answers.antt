use Rattle.strm_laws.proofs.PcktKeeps.{puts-keep}
use Rattle.strm_types.proofs.PcktPuts.{puts-notes}
use Rattle.strm_laws.proofs.pckt_laws.pckt_keeps_cells.Goals as goal

pub returns-clause-put : goal.returns-clause-put
returns-clause-put g c = λ p cells made here m. puts-keep p cells made here m

pub returns-clause-notes : goal.returns-clause-notes
returns-clause-notes g c = λ cells made here m. puts-notes cells made here m
