use Rattle.strm_types.proofs.Outputs.{posts-few, posts-low, posts-make-few}
use Rattle.strm_laws.proofs.output_laws.output_is_bounded.Goals as goal

pub returns-clause-column : goal.returns-clause-column
returns-clause-column g c = λ cells dir made t column xs low. posts-low cells dir made t column xs low

pub returns-clause-given : goal.returns-clause-given
returns-clause-given g c = λ cells dir made t column xs. posts-few cells dir made t column xs

pub returns-clause-made : goal.returns-clause-made
returns-clause-made g c = λ cells dir made t column xs. posts-make-few cells dir made t column xs
