use Rattle.std.proofs.Common.{◌≡◌, ◌<◌, ◌-◌, take}
use Rattle.std.specs.List.{list_any}
use Rattle.strm_types.specs.declared.limits.TheConstants.{BANDS}
use Rattle.strm_queue.specs.Flows.{relieves, relieved}
use Rattle.strm_queue.proofs.Flushed.{Passed}
use Rattle.strm_queue.proofs.banded.Banded.relieve.Given as goal

abbrev pub invariant-loop-at : goal.invariant-loop-at
invariant-loop-at l = record {
  within : l.from < BANDS;
  passed : Passed relieved l.initial.self l.self l.from;
  went : l.went ≡ list_any relieves (take l.from l.initial.self);
}

abbrev pub decreases-loop-at : goal.decreases-loop-at
decreases-loop-at l = BANDS - l.from
