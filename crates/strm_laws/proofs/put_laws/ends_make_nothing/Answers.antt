use Rattle.strm_laws.proofs.EndsMake.{driver_put-none, head_put-none}
use Rattle.strm_laws.proofs.put_laws.ends_make_nothing.Goals as goal

pub returns-clause-head : goal.returns-clause-head
returns-clause-head g c = λ p here m h. head_put-none p here m h

pub returns-clause-driver : goal.returns-clause-driver
returns-clause-driver g c = λ p side across here m q. driver_put-none p side across here m q
