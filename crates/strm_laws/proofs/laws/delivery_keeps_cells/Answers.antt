use Rattle.strm_laws.proofs.DeliveryKeeps.{carried-keeps}
use Rattle.strm_laws.proofs.laws.delivery_keeps_cells.Goals as goal

pub returns : goal.returns
returns g c = carried-keeps
