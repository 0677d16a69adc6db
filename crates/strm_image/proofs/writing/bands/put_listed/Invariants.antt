use Rattle.std.proofs.Common.{◌≡◌, ◌<◌, ◌≤◌, drop, length}
use Rattle.std.specs.List.{flat_map}
use Rattle.strm_types.specs.declared.limits.TheConstants.{BANDS}
use Rattle.strm_image.specs.FlowTexts.{flow_now}
use Rattle.strm_image.specs.Format.{byte, ◌then◌}
use Rattle.strm_image.specs.Queues.{flow, listed}
use Rattle.strm_image.specs.Sinks.{put}
use Rattle.strm_image.proofs.writing.bands.put_listed.Given as goal

abbrev pub invariant-loop-i : goal.invariant-loop-i
invariant-loop-i g l = record {
  told : put (flat_map (byte then flow).text (listed (flow_now l.first) l.i (drop l.i (g.B.Bands.flows l.bands)))) l.out ≡ put (flat_map (byte then flow).text (listed (flow_now l.first) 0 (g.B.Bands.flows l.bands))) l.fn.out;
  up : l.i ≤ l.end;
  all : 0 < l.i → length (g.B.Bands.flows l.bands) ≡ BANDS;
}
