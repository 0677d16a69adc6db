use Rattle.strm_laws.proofs.LdtermOrderly.{new-orderly, orderly-echo, puts-orderly, serves-orderly}
use Rattle.strm_laws.proofs.line_laws.ldterm_stays_orderly.Goals as goal

pub returns-clause-new : goal.returns-clause-new
returns-clause-new g c = new-orderly

pub returns-clause-put : goal.returns-clause-put
returns-clause-put g c = λ here m l is. puts-orderly here m l is

pub returns-clause-serves : goal.returns-clause-serves
returns-clause-serves g c = λ cells here made again stop l is turn. serves-orderly cells here made again stop l is turn

pub returns-clause-echo : goal.returns-clause-echo
returns-clause-echo g c = λ l is. orderly-echo l is
