-- Nothing stands in any band.
use Rattle.strm_queue.proofs.FreshRows.{first-counted, first-flows}
use Rattle.strm_queue.proofs.flows.Flows.renew.Goals as goal

pub invariant_of-self : goal.invariant_of-self
invariant_of-self c = first-flows c.args.high c.args.low c.requires c.new-self-inside.result c.renew.new.self c.new-self-inside.ensures c.renew.ensures

pub returns-clause-counted : goal.returns-clause-counted
returns-clause-counted c = first-counted c.args.high c.args.low c.requires c.new-self-inside.result c.renew.new.self c.new-self-inside.ensures c.renew.ensures
