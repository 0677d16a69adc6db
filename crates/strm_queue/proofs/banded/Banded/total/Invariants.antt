use Rattle.std.proofs.Common.{◌≡◌, ◌<◌, ◌-◌, take}
use Rattle.std.specs.Prelude.{sum_by}
use Rattle.strm_types.specs.declared.limits.TheConstants.{BANDS}
use Rattle.strm_queue.specs.Flows.{kept_bytes}
use Rattle.strm_queue.proofs.banded.Banded.total.Given as goal

abbrev pub invariant-loop-at : goal.invariant-loop-at
invariant-loop-at l = record {
  within : l.from < BANDS;
  total : l.total ≡ sum_by (kept_bytes l.data_alone) (take l.from l.self);
}

abbrev pub decreases-loop-at : goal.decreases-loop-at
decreases-loop-at l = BANDS - l.from
