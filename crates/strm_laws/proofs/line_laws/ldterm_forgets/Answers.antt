use Rattle.strm_laws.proofs.LdtermPutForgets.{puts-forget}
use Rattle.strm_laws.proofs.LdtermServes.{serves-forget}
use Rattle.strm_laws.proofs.line_laws.ldterm_forgets.Goals as goal

pub returns-clause-put : goal.returns-clause-put
returns-clause-put g c = λ f here m l. puts-forget f here m l

pub returns-clause-serves : goal.returns-clause-serves
returns-clause-serves g c = λ cells here made again stop l are. serves-forget cells are here made again stop l
