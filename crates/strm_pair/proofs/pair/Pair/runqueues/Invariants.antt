use Rattle.strm_pair.specs.Running.{IsRunning}
use Rattle.strm_pair.proofs.pair.Pair.runqueues.Given as goal

abbrev pub invariant-loop-turns : goal.invariant-loop-turns
invariant-loop-turns g l = IsRunning g.M.Behaves.does l.turns l.left l.fn.self l.self
