use Rattle.std.proofs.Common.{length}
use Rattle.strm_queue.specs.Stored.{messages_on}
use Rattle.strm_frame.proofs.Seeking.{Going}
use Rattle.strm_frame.proofs.queues.take_all.Given as goal

abbrev pub invariant-loop-store : goal.invariant-loop-store
invariant-loop-store g l =
    let value = g.B.Blocks.value in
    record { going : Going l.fn.number (value l.fn.store) (value l.store) l.fn.queue l.queue l.met }

abbrev pub decreases-loop-store : goal.decreases-loop-store
decreases-loop-store g l = length (messages_on (g.B.Blocks.value l.store) l.queue.list)
