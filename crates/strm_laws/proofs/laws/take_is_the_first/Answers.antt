use Rattle.strm_laws.proofs.FirstTaken.{taken-highest, taken-lanes, taken-order}
use Rattle.strm_laws.proofs.laws.take_is_the_first.Goals as goal

pub returns-clause-highest : goal.returns-clause-highest
returns-clause-highest g c = λ m q rest o is. taken-highest m q rest o is

pub returns-clause-lanes : goal.returns-clause-lanes
returns-clause-lanes g c = λ m q rest r is. taken-lanes m q rest r is

pub returns-clause-order : goal.returns-clause-order
returns-clause-order g c = λ m q rest o is. taken-order m q rest o is
