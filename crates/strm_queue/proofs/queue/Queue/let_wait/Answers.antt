use Rattle.std.proofs.Common.{◌∙◌, ap}
use Rattle.strm_queue.specs.Flows.{plain_flows}
use Rattle.strm_queue.proofs.Marks.{set-waits}
use Rattle.strm_queue.proofs.queue.Queue.let_wait.Goals as goal

pub returns-clause-flows : goal.returns-clause-flows
returns-clause-flows c = ap plain_flows c.set_waiting.ensures.flows ∙ set-waits c.args.self.now.flows c.args.band.0
