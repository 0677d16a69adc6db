use Rattle.std.proofs.Common.{◌<◌, ◌-◌}
use Rattle.strm_types.specs.declared.limits.TheConstants.{BANDS}
use Rattle.strm_queue.specs.Flows.{flushed_of}
use Rattle.strm_queue.specs.Flushes.{takes_all}
use Rattle.strm_queue.proofs.Flushed.{Passed}
use Rattle.strm_queue.proofs.banded.Banded.flush.Given as goal

abbrev pub invariant-loop-at : goal.invariant-loop-at
invariant-loop-at l = record {
  within : l.from < BANDS;
  passed : Passed (flushed_of (takes_all l.what)) l.initial.self l.self l.from;
}

abbrev pub decreases-loop-at : goal.decreases-loop-at
decreases-loop-at l = BANDS - l.from
