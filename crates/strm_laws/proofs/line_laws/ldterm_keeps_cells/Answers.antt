use Rattle.strm_laws.proofs.LdtermKeeps.{puts-hold}
use Rattle.strm_laws.proofs.LdtermStages.{next-keeps, next-echo, stages-keep}
use Rattle.strm_laws.proofs.LdtermServes.{serves-keep}
use Rattle.strm_laws.proofs.line_laws.ldterm_keeps_cells.Goals as goal

pub returns-clause-put : goal.returns-clause-put
returns-clause-put g c = λ p here m l. puts-hold p here m l

pub returns-clause-stage : goal.returns-clause-stage
returns-clause-stage g c = λ p cells here made l ignores stands. next-keeps p cells here ignores made l stands

pub returns-clause-echo : goal.returns-clause-echo
returns-clause-echo g c = λ cells here made l stands. next-echo cells here made l stands

pub returns-clause-stages : goal.returns-clause-stages
returns-clause-stages g c = λ p cells here n bytes made l ignores stands is. stages-keep p cells here ignores n bytes made l stands is

pub returns-clause-serves : goal.returns-clause-serves
returns-clause-serves g c = λ p cells here made again stop l ignores stands may. serves-keep p cells ignores here made again stop l stands may
