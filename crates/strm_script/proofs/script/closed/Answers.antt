use Rattle.strm_script.proofs.Whole.{ended_cut}
use Rattle.strm_script.proofs.script.closed.Goals as goal

pub returns-then-not-send_answers-clause-ended : goal.returns-then-not-send_answers-clause-ended
returns-then-not-send_answers-clause-ended g c = ended_cut _ _ _ _ _ c.send_answers.ensures.sent
