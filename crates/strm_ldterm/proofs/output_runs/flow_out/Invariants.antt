use Rattle.std.proofs.Common.{◌-◌, length}
use Rattle.strm_ldterm.specs.Posting.{FlowsAs}
use Rattle.strm_ldterm.proofs.output_runs.flow_out.Given as goal

abbrev pub invariant-loop-at : goal.invariant-loop-at
invariant-loop-at l = FlowsAs l.fn.here l.fn.termios l.fn.bytes l.at l.fn.flow l.flow l.fn.told l.told

abbrev pub decreases-loop-at : goal.decreases-loop-at
decreases-loop-at l = length l.fn.bytes - l.at
