use Rattle.strm_msg.proofs.InHand.{pulled-here}
use Rattle.strm_tests.proofs.msg.rows.pulled.Goals as goal

pub returns-in-Ok : goal.returns-in-Ok
returns-in-Ok g c = pulled-here c.in-Ok.ensures
