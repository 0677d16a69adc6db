use Rattle.strm_laws.proofs.DeliveryForgets.{carried-agrees}
use Rattle.strm_laws.proofs.laws.delivery_forgets.Goals as goal

pub returns : goal.returns
returns g c = carried-agrees
