use Rattle.strm_laws.proofs.OutputServes.{output-keeps}
use Rattle.strm_laws.proofs.OutputKeeps.{posts-keep}
use Rattle.strm_laws.proofs.output_laws.output_keeps_cells.Goals as goal

pub returns-clause-posts : goal.returns-clause-posts
returns-clause-posts g c = λ p cells dir made t column xs ignores. posts-keep p cells ignores dir made t column xs

pub returns-clause-serves : goal.returns-clause-serves
returns-clause-serves g c = λ p cells here stop made l ignores. output-keeps p cells ignores here stop made l
