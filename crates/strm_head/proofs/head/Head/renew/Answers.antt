-- The queue is as new, and so is all else.
use Rattle.std.proofs.Common.{refl, ap, ◌∙◌}
use Rattle.strm_blocks.specs.Blocks.{list_at}
use Rattle.strm_queue.proofs.Renewed.{fresh-queue}
use Rattle.strm_head.proofs.head.Head.renew.Goals as goal

pub returns-clause-head : goal.returns-clause-head
returns-clause-head c = λ s none.
    let e = c.renew.ensures in
    rw (fresh-queue s c.renew.new.self 5120 1024 (ap (list_at s) e.list ∙ none) e.flows e.want_read e.no_enable, c.new-self.ensures) refl
