use Rattle.strm_locks.specs.Systems.{IsOne}
use Rattle.strm_shared.proofs.rows.work.Given as goal

abbrev pub invariant-loop-at : goal.invariant-loop-at
invariant-loop-at g l = IsOne l.system l.end
