use Rattle.std.proofs.Common.{◌≡◌}
use Rattle.strm_locks.proofs.lock.Lock.settle.Given as goal

abbrev pub invariant-loop : goal.invariant-loop
invariant-loop g l = l.mine ≡ l.fn.end
