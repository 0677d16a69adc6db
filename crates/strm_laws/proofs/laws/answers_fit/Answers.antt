use Rattle.strm_laws.proofs.AnswersFit.{content-fits, content-bounded}
use Rattle.strm_laws.proofs.laws.answers_fit.Goals as goal

pub returns-clause-content : goal.returns-clause-content
returns-clause-content g c = λ cells caller asked s. content-fits cells g.K.Behaves.does caller asked s

pub returns-clause-buffer : goal.returns-clause-buffer
returns-clause-buffer g c = λ asked. content-bounded asked
