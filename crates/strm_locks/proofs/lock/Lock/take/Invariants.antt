use Rattle.std.proofs.Common.{◌≡◌}
use Rattle.strm_locks.specs.Shares.{IsSame}
use Rattle.strm_locks.proofs.lock.Lock.take.Given as goal

abbrev pub invariant-loop : goal.invariant-loop
invariant-loop g l = IsSame l.fn.seat l.seat × (l.seat.me ≡ l.fn.seat.me)
