use Rattle.strm_types.proofs.Outputs.{posts-alone, posts-join}
use Rattle.strm_laws.proofs.output_laws.output_is_bytewise.Goals as goal

pub returns-clause-alone : goal.returns-clause-alone
returns-clause-alone g c = λ cells dir made t column x. posts-alone cells dir made t column x

pub returns-clause-joined : goal.returns-clause-joined
returns-clause-joined g c = λ cells dir made t column xs ys. posts-join cells dir made t column xs ys
