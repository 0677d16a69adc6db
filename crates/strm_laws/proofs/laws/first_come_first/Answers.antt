use Rattle.strm_laws.proofs.Lanes.{lane-put_all}
use Rattle.strm_laws.proofs.laws.first_come_first.Goals as goal

pub returns : goal.returns
returns g c = λ r ms q o. lane-put_all r ms q o
