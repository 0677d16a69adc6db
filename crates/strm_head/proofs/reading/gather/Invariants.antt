use Rattle.strm_head.proofs.Prelude.{◌≡◌, ◌≤◌, ◌<◌, ◌+◌, ◌++◌, true, false, length}
use Rattle.strm_head.specs.Prelude.{list_at, messages_on, SameFlags, Keeps}
use Rattle.strm_head.specs.Leaving.{StepLeaves}
use Rattle.strm_head.specs.Drawing.{behind_passed, drawn_on, first_goes}
use Rattle.strm_head.proofs.reading.gather.Given as goal

abbrev pub invariant-loop-wanted : goal.invariant-loop-wanted
invariant-loop-wanted g l =
    let now = drawn_on l.read l.control l.begun l.wanted (messages_on (g.B.Blocks.value l.store) l.initial.queue.list) in
    let all = drawn_on l.initial.read l.initial.control l.initial.begun l.initial.wanted (messages_on (g.B.Blocks.value l.initial.store) l.initial.queue.list) in
    record {
      given : l.out.items ++ now.given ≡ l.initial.out.items ++ all.given;
      discarded : l.discarded + length now.discarded ≡ length all.discarded;
      left : now.left ≡ all.left;
      goes : l.begun ≡ false → first_goes l.initial.control false (behind_passed l.initial.control (messages_on (g.B.Blocks.value l.store) l.initial.queue.list)) ≡ true;
      none : 0 < l.wanted → l.discarded ≡ 0;
      fits : length l.out.items + l.wanted ≤ length l.initial.out.items + l.initial.wanted;
      steps : StepLeaves l.wanted (list_at (g.B.Blocks.value l.initial.store) l.initial.queue.list) (list_at (g.B.Blocks.value l.store) l.initial.queue.list);
      flags : SameFlags l.initial.queue l.queue;
      keeps : Keeps (g.B.Blocks.value l.initial.store) (g.B.Blocks.value l.store) l.initial.queue l.queue;
    }

abbrev pub decreases-loop-wanted : goal.decreases-loop-wanted
decreases-loop-wanted g l = l.wanted
