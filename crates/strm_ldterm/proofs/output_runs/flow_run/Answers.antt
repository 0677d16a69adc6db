use Rattle.std.proofs.Common.{arith}
use Rattle.strm_ldterm.proofs.Flows.{flows-run}
use Rattle.strm_ldterm.proofs.output_runs.flow_run.Goals as goal

pub returns : goal.returns
returns c = λ here t f all.
    flows-run here t c.args.bytes.now c.args.flow.now _ f (let room = c.requires.room in omega arith) all c.moved_on-flow.ensures.low c.in-Ok.ensures.ok c.moved_on-flow.ensures.moved
