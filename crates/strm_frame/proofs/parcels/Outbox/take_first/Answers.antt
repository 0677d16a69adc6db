use Rattle.strm_frame.proofs.Prelude.{arith, common_steps}
use Rattle.strm_frame.proofs.parcels.Outbox.take_first.Goals as goal

pub returns-in-Some : goal.returns-in-Some
returns-in-Some c = grind (arith, common_steps) steps 30000

pub returns : goal.returns
returns c = grind (arith, common_steps) steps 100000
