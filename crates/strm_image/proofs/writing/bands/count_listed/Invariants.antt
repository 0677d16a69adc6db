use Rattle.std.proofs.Common.{◌≡◌, ◌<◌, ◌≤◌, ◌+◌, drop, length}
use Rattle.strm_types.specs.declared.limits.TheConstants.{BANDS}
use Rattle.strm_image.specs.FlowTexts.{flow_now}
use Rattle.strm_image.specs.Queues.{listed}
use Rattle.strm_image.proofs.writing.bands.count_listed.Given as goal

abbrev pub invariant-loop-i : goal.invariant-loop-i
invariant-loop-i g l = record {
  told : l.count + length (listed (flow_now l.first) l.i (drop l.i (g.B.Bands.flows l.bands))) ≡ length (listed (flow_now l.first) 0 (g.B.Bands.flows l.bands));
  few : l.count ≤ l.i;
  up : l.i ≤ l.end;
  all : 0 < l.i → length (g.B.Bands.flows l.bands) ≡ BANDS;
}
