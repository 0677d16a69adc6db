use Rattle.strm_types.proofs.PtemPuts.{puts-gone}
use Rattle.strm_laws.proofs.PtemPuts.{puts-sent, puts-notes}
use Rattle.strm_laws.proofs.ptem_laws.ptem_keeps_cells.Goals as goal

pub returns-clause-sent : goal.returns-clause-sent
returns-clause-sent g c = λ p here m l. puts-sent p here m l

pub returns-clause-gone : goal.returns-clause-gone
returns-clause-gone g c = λ here m l. puts-gone here m l

pub returns-clause-notes : goal.returns-clause-notes
returns-clause-notes g c = λ here m l. puts-notes here m l
