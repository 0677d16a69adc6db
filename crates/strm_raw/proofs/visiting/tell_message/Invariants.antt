use Rattle.strm_raw.proofs.Telling.{Telling}
use Rattle.strm_raw.proofs.visiting.tell_message.Given as goal

abbrev pub invariant-loop-left : goal.invariant-loop-left
invariant-loop-left g l = Telling g.V.Visitor.after g.V.Visitor.goes_on l.memory l.fn.first l.link l.leads l.left l.fn.visitor l.visitor

abbrev pub decreases-loop-left : goal.decreases-loop-left
decreases-loop-left g l = l.left
