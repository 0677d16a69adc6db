-- The bytes of band 0 and of the others.
use Rattle.std.proofs.Common.{false, ◌∷◌, arith}
use Rattle.std.proofs.lemmas.List.Sums.{sum_by-cons}
use Rattle.strm_queue.specs.Flows.{kept_bytes}
use Rattle.strm_queue.proofs.Parts.{others-few, others-small, first-few}
use Rattle.strm_queue.proofs.Passing.{kept-less}
use Rattle.strm_queue.proofs.Totals.{bytes-sum}
use Rattle.strm_queue.proofs.flows.Flows.total.Goals as goal

pub count-requires : goal.count-requires
count-requires c = first-few c.self.inside.first c.self.inside.others c.self.invariant

pub total-requires : goal.total-requires
total-requires c = others-few c.self.inside.first c.self.inside.others c.self.invariant

pub overflow_add-result : goal.overflow_add-result
overflow_add-result c =
    let small = others-small (kept_bytes false) c.self.inside.first c.self.inside.others (kept-less false) c.self.invariant in
    omega (arith, small, c.self.invariant.few 0, c.count.ensures, c.total.ensures)

pub returns : goal.returns
returns c = rw (← c.self.view_is) λ q is.
    let f = c.self.inside.first in
    let fs = c.self.inside.others in
    omega (arith, c.count.ensures, c.total.ensures, sum_by-cons (kept_bytes false) f fs, bytes-sum (f ∷ fs) q is)
