use Rattle.std.proofs.Common.{◌≡◌, ◌-◌, [], length, map, take}
use Rattle.std.specs.List.{All}
use Rattle.strm_image.specs.declared.versions.TheConstants.{FIRST_BANDS}
use Rattle.strm_image.specs.FlowTexts.{IsMarked, flow_now}
use Rattle.strm_image.specs.Format.{always, at_end, keep, gather_from}
use Rattle.strm_image.specs.Queues.{flow}
use Rattle.strm_image.proofs.bands.few_flows_at.Given as goal

abbrev pub invariant-loop-i : goal.invariant-loop-i
invariant-loop-i l = record {
  told : gather_from keep (always flow) at_end (map flow_now (take l.i l.flows)) tt (FIRST_BANDS - l.i) l.rest ≡ gather_from keep (always flow) at_end [] tt FIRST_BANDS l.text;
  marked : All IsMarked l.flows;
  long : length l.flows ≡ FIRST_BANDS;
}
