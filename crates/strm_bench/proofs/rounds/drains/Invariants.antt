use Rattle.std.proofs.Common.{◌≤◌}
use Rattle.strm_bench.proofs.rounds.drains.Given as goal

abbrev pub invariant-loop : goal.invariant-loop
invariant-loop g l = l.left ≤ l.n
