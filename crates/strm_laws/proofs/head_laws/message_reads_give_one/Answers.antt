use Rattle.strm_types.proofs.ReadRefuses.{keep-one, discard-one}
use Rattle.strm_laws.proofs.head_laws.message_reads_give_one.Goals as goal

pub returns-clause-keep : goal.returns-clause-keep
returns-clause-keep g c = λ control n q. keep-one control n q

pub returns-clause-discard : goal.returns-clause-discard
returns-clause-discard g c = λ control n q. discard-one control n q
