-- The marks, and a writer that waits or none.
use Rattle.strm_pair.proofs.FlowsSet.{set-free, set-waiting}
use Rattle.strm_pair.proofs.images.made_queues.set_flow.Goals as goal

pub returns-then-flow-clause-flows : goal.returns-then-flow-clause-flows
returns-then-flow-clause-flows c = set-waiting c.args.queue.now.flows c.set_marks.new.self.flows c.args.band.0 c.args.flow c.requires.free c.set_marks.ensures.marks c.let_wait.new.self.flows c.if-flow.true c.let_wait.ensures.flows

pub returns-else-flow-clause-flows : goal.returns-else-flow-clause-flows
returns-else-flow-clause-flows c = set-free c.args.queue.now.flows c.set_marks.new.self.flows c.args.band.0 c.args.flow c.requires.free c.set_marks.ensures.marks c.if-flow.false
