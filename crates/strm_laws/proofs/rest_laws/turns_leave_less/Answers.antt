use Rattle.strm_laws.proofs.RestWork.{echoed-turn, plain-turn}
use Rattle.strm_laws.proofs.rest_laws.turns_leave_less.Goals as goal

pub returns-clause-plain : goal.returns-clause-plain
returns-clause-plain g c = λ cells name turn s none enabled. (plain-turn g.K.Behaves.does cells name turn s none enabled).1

pub returns-clause-echoed : goal.returns-clause-echoed
returns-clause-echoed g c = λ cells old new name turn once good step. (echoed-turn g.K.Behaves.does cells old new name turn once (good.streams, good.numbered, good.last) step).1
