use Rattle.std.proofs.Common.{◌≡◌}
use Rattle.strm_blocks.specs.Blocks.{in_hand, changed, token}
use Rattle.strm_msg.specs.Retyped.{retyped}
use Rattle.strm_msg.proofs.kinds.set_kinds.Given as goal

abbrev pub invariant-loop-at : goal.invariant-loop-at
invariant-loop-at g l = record {
  kinds : g.B.Blocks.value l.store ≡ changed (g.B.Blocks.value l.initial.store) (token l.message) (retyped l.at l.kind (in_hand (g.B.Blocks.value l.initial.store) (token l.message)));
}
