use Rattle.strm_types.proofs.ReadRefuses.{refused-none, takes-none}
use Rattle.strm_laws.proofs.head_laws.refused_reads_take_nothing.Goals as goal

pub returns-clause-refused : goal.returns-clause-refused
returns-clause-refused g c = λ read control at_end n q refusal is. refused-none read control at_end n q refusal is

pub returns-clause-none : goal.returns-clause-none
returns-clause-none g c = λ read control n q is. takes-none read control n q is
