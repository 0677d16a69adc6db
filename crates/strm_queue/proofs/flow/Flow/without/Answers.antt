use Rattle.std.proofs.Common.{refl}
use Rattle.strm_queue.proofs.flow.Flow.without.Goals as goal
use Rattle.strm_queue.proofs.flow.Flow.without.Goals.{then-share, else-share}

pub returns : goal.returns
returns c =
    elim c.if-share.branch [
      | then-share w ↦ rw (c.count.ensures, w.flow-is, w.if-share.true) refl
      | else-share w ↦ rw (c.count.ensures, w.flow-is, w.if-share.false) refl
    ]
