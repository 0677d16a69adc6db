use Rattle.strm_locks.specs.Systems.{IsOne}
use Rattle.strm_shared.proofs.server.listen.Given as goal

abbrev pub invariant-loop : goal.invariant-loop
invariant-loop g l = IsOne l.system l.end
