-- The bytes of data of band 0 and of the others.
use Rattle.std.proofs.Common.{true, ◌∷◌, arith}
use Rattle.std.proofs.lemmas.List.Sums.{sum_by-cons}
use Rattle.strm_queue.specs.Flows.{kept_bytes}
use Rattle.strm_queue.proofs.Parts.{others-few, others-small}
use Rattle.strm_queue.proofs.Passing.{kept-less}
use Rattle.strm_queue.proofs.Totals.{data-sum}
use Rattle.strm_queue.proofs.flows.Flows.data_bytes.Goals as goal

pub total-requires : goal.total-requires
total-requires c = others-few c.self.inside.first c.self.inside.others c.self.invariant

pub overflow_add-result : goal.overflow_add-result
overflow_add-result c =
    let small = others-small (kept_bytes true) c.self.inside.first c.self.inside.others (kept-less true) c.self.invariant in
    omega (arith, small, c.self.invariant.few 0, c.total.ensures)

pub returns-clause-all : goal.returns-clause-all
returns-clause-all c = rw (← c.self.view_is) λ q is none.
    let f = c.self.inside.first in
    let fs = c.self.inside.others in
    omega (arith, c.total.ensures, sum_by-cons (kept_bytes true) f fs, data-sum (f ∷ fs) q is)
