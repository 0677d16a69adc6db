use Rattle.strm_laws.proofs.ForgettingSteps.{call-forgets, turn-forgets, replay-forgets}
use Rattle.strm_laws.proofs.laws.steps_forget_origins.Goals as goal

pub returns-clause-call : goal.returns-clause-call
returns-clause-call g c = λ cells caller asked s are. call-forgets cells are g.K.Behaves.does caller asked s

pub returns-clause-turn : goal.returns-clause-turn
returns-clause-turn g c = λ cells name turn s are. turn-forgets cells are g.K.Behaves.does name turn s

pub returns-clause-replay : goal.returns-clause-replay
returns-clause-replay g c = λ cells s es are. replay-forgets cells are g.K.Behaves.does s es
