use Rattle.strm_laws.proofs.OwnWakes.{puts-wake, serves-wake}
use Rattle.strm_laws.proofs.own_laws.own_queues_wake.Goals as goal

pub returns-clause-put : goal.returns-clause-put
returns-clause-put g c = λ own way here m o pair. puts-wake own way here m o pair

pub returns-clause-serve : goal.returns-clause-serve
returns-clause-serve g c = λ own way here o pair. serves-wake own way here o pair
