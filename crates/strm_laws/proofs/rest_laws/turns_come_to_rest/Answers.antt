use Rattle.strm_laws.proofs.RestRuns.{echoed-runs, next-goes, plain-runs, room-left}
use Rattle.strm_laws.proofs.rest_laws.turns_come_to_rest.Goals as goal

pub returns-clause-plain : goal.returns-clause-plain
returns-clause-plain g c = λ n old new ran none. (plain-runs g.K.Behaves.does n old new ran none).1

pub returns-clause-echoed : goal.returns-clause-echoed
returns-clause-echoed g c = λ n old new ran once good. (echoed-runs g.K.Behaves.does n old new ran once good).0.1

pub returns-clause-room : goal.returns-clause-room
returns-clause-room g c = λ n old new ran less events bytes. room-left g.K.Behaves.does n old new ran less events bytes

pub returns-clause-goes : goal.returns-clause-goes
returns-clause-goes g c = λ n old new ran less events bytes range blocks. next-goes g.K.Behaves.does n old new ran less events bytes range blocks
