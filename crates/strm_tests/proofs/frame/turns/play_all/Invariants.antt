use Rattle.strm_tests.specs.Rigs.{AtRest}
use Rattle.strm_tests.proofs.frame.turns.play_all.Given as goal

abbrev pub invariant-loop-at : goal.invariant-loop-at
invariant-loop-at g l = AtRest (g.B.Blocks.value l.store) l.rig.modules.modules.items
