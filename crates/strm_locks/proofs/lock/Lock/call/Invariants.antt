use Rattle.std.proofs.Common.{◌≡◌}
use Rattle.strm_locks.proofs.lock.Lock.call.Given as goal

abbrev pub invariant-loop : goal.invariant-loop
invariant-loop g l = (l.end ≡ l.fn.end) × (l.out ≡ l.fn.out)
