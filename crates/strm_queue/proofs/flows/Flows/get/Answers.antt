-- The counts of each band are small.
use Rattle.std.proofs.Common.{ap, arith, ◌-◌}
use Rattle.strm_queue.specs.Flows.{count_in}
use Rattle.strm_queue.proofs.Parts.{others-few}
use Rattle.strm_queue.proofs.flows.Flows.get.Goals as goal

pub returns-then-band-eq0-clause-few : goal.returns-then-band-eq0-clause-few
returns-then-band-eq0-clause-few c = c.self.invariant.few 0

pub at-requires-clause-few : goal.at-requires-clause-few
at-requires-clause-few c = others-few c.self.inside.first c.self.inside.others c.self.invariant

pub returns-clause-few : goal.returns-clause-few
returns-clause-few c =
    let same = ap count_in c.at.ensures.flow in
    omega (arith, same, others-few c.self.inside.first c.self.inside.others c.self.invariant (c.args.band - 1))
