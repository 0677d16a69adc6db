use Rattle.strm_blocks.specs.Blocks.{in_hand, token}
use Rattle.strm_msg.specs.Adjusted.{seen_from}
use Rattle.strm_msg.proofs.AdjustingRuns.{Measured}
use Rattle.strm_msg.proofs.adjust.run_at.Given as goal

abbrev pub invariant-loop-steps : goal.invariant-loop-steps
invariant-loop-steps g l = Measured (seen_from l.end (in_hand (g.B.Blocks.value l.store) (token l.message))) l.kind l.steps l.len
