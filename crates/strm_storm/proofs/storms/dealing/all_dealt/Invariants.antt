use Rattle.std.proofs.Common.{◌≡◌, length}
use Rattle.std.specs.Prelude.{All}
use Rattle.strm_storm.specs.Storms.{AreOf, IsJob}
use Rattle.strm_storm.proofs.storms.dealing.all_dealt.Given as goal

abbrev pub invariant-loop-thread : goal.invariant-loop-thread
invariant-loop-thread g l = record {
  masters : AreOf l.system l.fn.plan.pairs l.sides.masters.items;
  slaves : AreOf l.system l.fn.plan.pairs l.sides.slaves.items;
  jobs : All (λ j. IsJob l.system l.fn.plan.calls j) l.jobs.items;
  as_many : length l.jobs.items ≡ l.thread;
}
