use Rattle.strm_head.proofs.Prelude.{◌≡◌, length}
use Rattle.strm_head.specs.Prelude.{list_at, messages_on, SameFlags, Keeps}
use Rattle.strm_head.specs.Leaving.{Taken}
use Rattle.strm_head.specs.Drawing.{behind_passed, first_passed}
use Rattle.strm_head.proofs.reading.drop_passed.Given as goal

abbrev pub invariant-loop-passed : goal.invariant-loop-passed
invariant-loop-passed g l =
    let now = messages_on (g.B.Blocks.value l.store) l.initial.queue.list in
    record {
      passed : l.passed ≡ first_passed l.initial.control now;
      left : behind_passed l.initial.control now ≡ behind_passed l.initial.control (messages_on (g.B.Blocks.value l.initial.store) l.initial.queue.list);
      taken : Taken (list_at (g.B.Blocks.value l.initial.store) l.initial.queue.list) (list_at (g.B.Blocks.value l.store) l.initial.queue.list);
      flags : SameFlags l.initial.queue l.queue;
      keeps : Keeps (g.B.Blocks.value l.initial.store) (g.B.Blocks.value l.store) l.initial.queue l.queue;
    }

abbrev pub decreases-loop-passed : goal.decreases-loop-passed
decreases-loop-passed g l = length (messages_on (g.B.Blocks.value l.store) l.initial.queue.list)
