use Rattle.strm_laws.proofs.Forgetting.{put-forgets, put_back-forgets}
use Rattle.strm_laws.proofs.FirstTaken.{taken-forgets}
use Rattle.strm_laws.proofs.laws.forgetting_commutes.Goals as goal

pub returns-clause-put : goal.returns-clause-put
returns-clause-put g c = λ f m q. put-forgets f m q

pub returns-clause-put_back : goal.returns-clause-put_back
returns-clause-put_back g c = λ f m q. put_back-forgets f m q

pub returns-clause-taken : goal.returns-clause-taken
returns-clause-taken g c = λ f m q rest is. taken-forgets f m q rest is
