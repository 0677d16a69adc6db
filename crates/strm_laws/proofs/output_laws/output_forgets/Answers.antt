use Rattle.strm_laws.proofs.OutputServes.{output-forgets}
use Rattle.strm_laws.proofs.OutputKeeps.{posts-forget}
use Rattle.strm_laws.proofs.output_laws.output_forgets.Goals as goal

pub returns-clause-posts : goal.returns-clause-posts
returns-clause-posts g c = λ cells dir made t column xs are. posts-forget cells are dir made t column xs

pub returns-clause-serves : goal.returns-clause-serves
returns-clause-serves g c = λ cells here stop made ms l are. output-forgets cells are here stop made ms l
