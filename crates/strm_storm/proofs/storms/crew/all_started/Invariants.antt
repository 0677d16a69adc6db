use Rattle.std.proofs.Common.{◌≡◌, ℕ, ◌+◌, ◌≤◌, length}
use Rattle.std.specs.Prelude.{All}
use Rattle.strm_storm.specs.Storms.{IsJob}
use Rattle.strm_storm.proofs.storms.crew.all_started.Given as goal

abbrev pub invariant-loop-job : goal.invariant-loop-job
invariant-loop-job g l = record {
  jobs : All (λ j. IsJob l.system j.calls j × (j.calls ≤ 65536)) l.job-iterator.rest.items;
  few : length l.threads.items + length l.job-iterator.rest.items ≤ length l.fn.jobs.items;
  kept : (calls : ℕ) → All (λ j. j.calls ≡ calls) l.fn.jobs.items → All (λ j. j.calls ≡ calls) l.job-iterator.rest.items × All (λ t. (t.promise.system.now ≡ l.system) × (t.promise.calls ≡ calls)) l.threads.items;
}
