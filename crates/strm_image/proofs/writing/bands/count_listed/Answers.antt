use Rattle.std.proofs.Common.{ap, arith, length}
use Rattle.strm_image.specs.FlowTexts.{flow_now}
use Rattle.strm_image.proofs.WrittenRows.{listed_end}
use Rattle.strm_image.proofs.writing.bands.count_listed.Goals as goal

pub returns-clause-value : goal.returns-clause-value
returns-clause-value g c =
    let none = ap length (listed_end (flow_now c.args.first.now) c.loop-i.i c.args.end (g.B.Bands.flows c.args.bands.now) c.requires.none (omega (arith, c.loop-i.invariant.up, c.loop-i-test.false))) in
    omega (arith, none, c.loop-i.invariant.told)
