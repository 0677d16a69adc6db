-- The bands above 0 are the others.
use Rattle.strm_queue.proofs.Parts.{others-few, rests-shared}
use Rattle.strm_queue.proofs.flows.Flows.shared_above.Goals as goal

pub shared-requires : goal.shared-requires
shared-requires c = others-few c.self.inside.first c.self.inside.others c.self.invariant

pub returns : goal.returns
returns c = rw (← c.self.view_is) (rests-shared c.self.inside.first c.self.inside.others c.shared.result c.shared.ensures)
