use Rattle.strm_laws.proofs.StreamReads.{read-given, read-left}
use Rattle.strm_laws.proofs.head_laws.stream_read_is_head_read.Goals as goal

pub returns-clause-given : goal.returns-clause-given
returns-clause-given g c = λ n q all. read-given n q all

pub returns-clause-left : goal.returns-clause-left
returns-clause-left g c = λ n q all. read-left n q all
