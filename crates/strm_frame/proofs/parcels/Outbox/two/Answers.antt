use Rattle.strm_frame.proofs.Prelude.{arith, common_steps}
use Rattle.strm_frame.proofs.parcels.Outbox.two.Goals as goal

pub returns : goal.returns
returns c = grind (arith, common_steps) steps 10000
