-- What is passed can be read again.
use Rattle.std.proofs.Common.{arith, refl}
use Rattle.strm_image.specs.Queues.{flows}
use Rattle.strm_image.proofs.BandRows.{listed_unread, passed_read, passed_there}
use Rattle.strm_image.proofs.bands.listed_flows_at.Goals as goal

pub returns-in_err-count : goal.returns-in_err-count
unfolding flows
returns-in_err-count c = rw (c.from_residual.ensures, c.in_err-count.ensures) refl

pub returns-in_err-rest : goal.returns-in_err-rest
returns-in_err-rest c = rw (c.from_residual-in_err-rest.ensures, listed_unread c.args.queue c.args.text.now c.in_ok-count.count c.in_ok-count.text.now c.in_ok-count.ensures (rw c.first_flow.ensures at c.in_err-rest.ensures)) refl

pub invariant_of-flows : goal.invariant_of-flows
invariant_of-flows c = record { there = passed_there c.args.queue c.in_ok-count.count c.in_ok-count.text.now c.in_ok-rest.rest.now (rw c.first_flow.ensures at c.in_ok-rest.ensures) }

pub returns : goal.returns
returns c = passed_read c.args.queue c.in_ok-count.count c.in_ok-count.text.now c.in_ok-rest.rest.now (rw c.first_flow.ensures at c.in_ok-rest.ensures) c.args.text.now (λ i. omega (arith, c.type_inv.text i)) c.in_ok-count.ensures
