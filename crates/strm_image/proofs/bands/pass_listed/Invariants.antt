use Rattle.std.proofs.Common.{◌≡◌, ◌-◌}
use Rattle.strm_image.specs.FlowTexts.{flow_now}
use Rattle.strm_image.specs.Format.{gather_from, keep}
use Rattle.strm_image.specs.Queues.{listed_behind, next_band}
use Rattle.strm_image.proofs.bands.pass_listed.Given as goal

abbrev pub invariant-loop : goal.invariant-loop
invariant-loop l = gather_from next_band (listed_behind (flow_now l.first)) keep tt l.from (l.count - l.counter) l.rest ≡ gather_from next_band (listed_behind (flow_now l.first)) keep tt 0 l.count l.text
