-- Each band gets the marks.
use Rattle.std.proofs.Common.{◌∷◌, length, refl, ap, ◌∙◌, arith}
use Rattle.std.specs.Prelude.{map}
use Rattle.std.proofs.lemmas.List.{length-map, get_or-map}
use Rattle.strm_queue.specs.Flows.{marked_with}
use Rattle.strm_queue.specs.Kept.{flow_at, no_flow}
use Rattle.strm_queue.proofs.Flushed.{counted-all-marked}
use Rattle.strm_queue.proofs.Marks.{map-marked}
use Rattle.strm_queue.proofs.Parts.{each-flows, first-few}
use Rattle.strm_queue.proofs.flows.Flows.mark_all.Goals as goal

pub marked-self-inside-requires : goal.marked-self-inside-requires
marked-self-inside-requires c = first-few c.self.inside.first c.self.inside.others c.self.invariant

pub returns-clause-flows : goal.returns-clause-flows
returns-clause-flows c =
    let old = c.self.inside.first ∷ c.self.inside.others in
    rw (← c.self.view_is, c.marked-self-inside.ensures, c.mark.ensures) (map-marked c.args.high c.args.low old)

pub returns-clause-counted : goal.returns-clause-counted
returns-clause-counted c = rw (← c.self.view_is, c.marked-self-inside.ensures, c.mark.ensures) λ q is.
    let change = marked_with c.args.high c.args.low in
    let old = c.self.inside.first ∷ c.self.inside.others in
    counted-all-marked c.args.high c.args.low old (map change old) q (length-map old change) (λ band lt. get_or-map change old band no_flow no_flow (omega (arith, lt, c.self.invariant.eight))) is

pub invariant_of-self : goal.invariant_of-self
invariant_of-self c =
    let change = marked_with c.args.high c.args.low in
    let f = c.self.inside.first in
    let fs = c.self.inside.others in
    each-flows change f c.marked-self-inside.result fs c.mark.new.self c.marked-self-inside.ensures
    (λ at lt. ap (flow_at at) c.mark.ensures ∙ get_or-map change fs at no_flow no_flow (omega (arith, lt, c.self.invariant.eight))) (λ g. omega arith) refl (ap length c.mark.ensures ∙ length-map fs change) c.self.invariant
