use Rattle.std.proofs.Common.{◌≤◌, ◌*◌, if◌then◌else◌}
use Rattle.strm_bench.proofs.running.run.Given as goal

abbrev pub invariant-loop : goal.invariant-loop
invariant-loop l = l.told.read ≤ l.counter * ((if l.plan.warm then 2 else 1) * (l.plan.rounds * l.plan.round.asked))
