use Rattle.strm_raw.proofs.Telling.{TellingOn}
use Rattle.strm_raw.proofs.visiting.tell_list.Given as goal

abbrev pub invariant-loop-left : goal.invariant-loop-left
invariant-loop-left g l = TellingOn g.V.Visitor.after g.V.Visitor.goes_on l.memory l.fn.ends l.fn.visitor l.at l.left l.visitor

abbrev pub decreases-loop-left : goal.decreases-loop-left
decreases-loop-left g l = l.left
