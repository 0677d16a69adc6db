use Rattle.std.proofs.Common.{◌≤◌, ◌*◌}
use Rattle.strm_bench.proofs.running.rounds.Given as goal

abbrev pub invariant-loop-2 : goal.invariant-loop-2
invariant-loop-2 g l = l.read ≤ l.counter * l.plan.round.asked
