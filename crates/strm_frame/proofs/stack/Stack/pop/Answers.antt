use Rattle.strm_frame.proofs.Prelude.{arith, common_steps}
use Rattle.strm_frame.proofs.stack.Stack.pop.Goals as goal

pub returns : goal.returns
returns g c = grind (arith, common_steps) steps 1000000
