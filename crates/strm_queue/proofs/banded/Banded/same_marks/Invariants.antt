use Rattle.std.proofs.Common.{ℕ, ◌≡◌, ◌<◌}
use Rattle.strm_queue.specs.Flows.{at_rest, plain_flow}
use Rattle.strm_queue.specs.Kept.{flow_at}
use Rattle.strm_queue.proofs.banded.Banded.same_marks.Given as goal

abbrev pub invariant-loop-at : goal.invariant-loop-at
invariant-loop-at l = (k : ℕ) → k < l.at → plain_flow (flow_at k l.self) ≡ at_rest l.marks
