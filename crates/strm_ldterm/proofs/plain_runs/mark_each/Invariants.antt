use Rattle.strm_ldterm.proofs.Marks.{MarkedEach}
use Rattle.strm_ldterm.proofs.plain_runs.mark_each.Given as goal

abbrev pub invariant-loop-at : goal.invariant-loop-at
invariant-loop-at l = MarkedEach l.fn.odd l.odd l.bytes l.at
