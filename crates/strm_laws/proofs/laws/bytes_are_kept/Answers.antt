use Rattle.strm_laws.proofs.Prelude.{sym, subst, weight-put, weight-put_back}
use Rattle.strm_laws.specs.Kept.{AreIdle, NothingUnread}
use Rattle.strm_laws.proofs.Kept.{step-keeps}
use Rattle.strm_laws.proofs.Unread.{step-unread, opening-unread}
use Rattle.strm_laws.proofs.StepsIdle.{opening-idle, step-idle}
use Rattle.strm_laws.proofs.FirstTaken.{taken-weight}
use Rattle.strm_laws.proofs.laws.bytes_are_kept.Goals as goal

pub returns-clause-put : goal.returns-clause-put
returns-clause-put g c = λ p m q. weight-put p m q

pub returns-clause-put_back : goal.returns-clause-put_back
returns-clause-put_back g c = λ p m q. weight-put_back p m q

pub returns-clause-taken : goal.returns-clause-taken
returns-clause-taken g c = λ p m q rest is. taken-weight p m q rest is

pub returns-clause-step : goal.returns-clause-step
returns-clause-step g c = λ cells p old new entry tests unread idle step. step-keeps p g.K.Behaves.does cells old new entry tests unread idle step

pub returns-clause-unread : goal.returns-clause-unread
returns-clause-unread g c = λ cells old new entry unread step. step-unread g.K.Behaves.does cells old new entry unread step

pub returns-clause-opening : goal.returns-clause-opening
returns-clause-opening g c = λ s is. (subst (λ t. NothingUnread t) (sym is) opening-unread, subst (λ t. AreIdle t) (sym is) (opening-idle _))

pub returns-clause-idle : goal.returns-clause-idle
returns-clause-idle g c = λ cells old new entry idle step. step-idle g.K.Behaves.does cells old new entry idle step
