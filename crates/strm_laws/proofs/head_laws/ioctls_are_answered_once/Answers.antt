use Rattle.strm_laws.proofs.AnswersOnce.{told-at-once, told-next, told-once, told-pending}
use Rattle.strm_laws.proofs.head_laws.ioctls_are_answered_once.Goals as goal

pub returns-clause-once : goal.returns-clause-once
returns-clause-once g c = λ cells caller number asked s none. told-once g.K.Behaves.does cells caller number asked s none

pub returns-clause-next : goal.returns-clause-next
returns-clause-next g c = λ cells caller number command body s none. told-next g.K.Behaves.does cells caller number command body s none

pub returns-clause-waits : goal.returns-clause-waits
returns-clause-waits g c = λ cells caller command number body s is. told-pending g.K.Behaves.does cells caller command number body s is

pub returns-clause-at_once : goal.returns-clause-at_once
returns-clause-at_once g c = λ cells caller command asked body s. told-at-once g.K.Behaves.does cells caller command asked body s
