use Rattle.strm_ldterm.proofs.Marks.{Marked}
use Rattle.strm_ldterm.proofs.plain_runs.mark.Given as goal

abbrev pub invariant-loop-at : goal.invariant-loop-at
invariant-loop-at l = Marked l.fn.odd l.odd l.from l.at
