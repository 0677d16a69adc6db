-- From the end of the bands on there are none, and from band 1 on where all above are as at first.
use Rattle.std.proofs.Common.{◌∙◌, sym}
use Rattle.strm_image.specs.FlowTexts.{flow_now}
use Rattle.strm_image.proofs.WrittenRows.{past_listed, rests_listed}
use Rattle.strm_image.proofs.writing.bands.end_of.Goals as goal

pub returns-in_default-clause-none : goal.returns-in_default-clause-none
returns-in_default-clause-none g c = past_listed (flow_now c.args.first.now) (g.B.Bands.flows c.args.bands.now) c.shared_above.ensures.all

pub returns-then-is-clause-none : goal.returns-then-is-clause-none
returns-then-is-clause-none g c = rests_listed c.in-Some.marks (flow_now c.args.first.now) (g.B.Bands.flows c.args.bands.now) c.in-Some.ensures.all c.in-Some.ensures.shared (sym c.is.ensures ∙ c.if-is.true)

pub returns-else-is-clause-none : goal.returns-else-is-clause-none
returns-else-is-clause-none g c = past_listed (flow_now c.args.first.now) (g.B.Bands.flows c.args.bands.now) c.in-Some.ensures.all
