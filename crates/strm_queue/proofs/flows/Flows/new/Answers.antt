-- Nothing stands in any band.
use Rattle.strm_queue.proofs.FreshRows.{first-counted, first-flows}
use Rattle.strm_queue.proofs.flows.Flows.new.Goals as goal

pub invariant_of-result : goal.invariant_of-result
invariant_of-result c = first-flows c.args.high c.args.low c.requires c.new.result c.new-2.result c.new.ensures c.new-2.ensures

pub returns-clause-counted : goal.returns-clause-counted
returns-clause-counted c = first-counted c.args.high c.args.low c.requires c.new.result c.new-2.result c.new.ensures c.new-2.ensures
