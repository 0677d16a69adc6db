use Rattle.strm_image.specs.FlowTexts.{flow_now}
use Rattle.strm_image.specs.Format.{keep}
use Rattle.strm_image.specs.Queues.{listed_behind, next_band}
use Rattle.strm_image.proofs.Formats.{gather_more}
use Rattle.strm_image.proofs.bands.pass_listed.Goals as goal

pub loop-preserved : goal.loop-preserved
loop-preserved c = rw c.from-from.ensures (gather_more next_band (listed_behind (flow_now c.args.first.now)) keep tt c.loop.from c.args.count c.loop.counter c.loop.rest.now _ _ c.loop-test.true c.in_ok-band.ensures.read c.loop.invariant)
