-- Each band lets its writer go.
use Rattle.std.proofs.Common.{◌∷◌, arith}
use Rattle.strm_queue.specs.Flows.{relieved}
use Rattle.strm_queue.proofs.Flushed.{counted-relieved, relieved-less, relieved-marked}
use Rattle.strm_queue.proofs.Parts.{each-band, each-flows, others-few, first-few}
use Rattle.strm_queue.proofs.flows.Flows.relieve_waiting.Goals as goal

pub lets_go-went-requires : goal.lets_go-went-requires
lets_go-went-requires c = first-few c.self.inside.first c.self.inside.others c.self.invariant

pub relieved-self-inside-requires : goal.relieved-self-inside-requires
relieved-self-inside-requires c = first-few c.self.inside.first c.self.inside.others c.self.invariant

pub relieve-requires : goal.relieve-requires
relieve-requires c = others-few c.self.inside.first c.self.inside.others c.self.invariant

pub returns-clause-each : goal.returns-clause-each
returns-clause-each c = rw (← c.self.view_is)
    (each-band relieved c.self.inside.first c.relieved-self-inside.result c.self.inside.others c.relieve.new.self c.relieved-self-inside.ensures c.relieve.ensures.each)

pub returns-clause-counted : goal.returns-clause-counted
returns-clause-counted c = rw (← c.self.view_is) λ q is.
    let f = c.self.inside.first in
    let fs = c.self.inside.others in
    counted-relieved (f ∷ fs) (c.relieved-self-inside.result ∷ c.relieve.new.self) q (omega (arith, c.relieve.ensures.long))
    (each-band relieved f c.relieved-self-inside.result fs c.relieve.new.self c.relieved-self-inside.ensures c.relieve.ensures.each) is

pub invariant_of-self : goal.invariant_of-self
invariant_of-self c =
    each-flows relieved c.self.inside.first c.relieved-self-inside.result c.self.inside.others c.relieve.new.self c.relieved-self-inside.ensures c.relieve.ensures.each relieved-less (relieved-marked c.self.inside.first c.self.invariant.marked) c.relieve.ensures.long c.self.invariant
