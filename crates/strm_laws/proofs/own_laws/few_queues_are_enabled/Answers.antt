use Rattle.strm_laws.proofs.EnabledFew.{restorable-few, restorable-room}
use Rattle.strm_laws.proofs.own_laws.few_queues_are_enabled.Goals as goal

pub returns-clause-few : goal.returns-clause-few
returns-clause-few g c = λ s good. restorable-few s good

pub returns-clause-room : goal.returns-clause-room
returns-clause-room g c = λ s name good there absent. restorable-room s good name there absent
