-- A head's queue is one still.
use Rattle.strm_queue.proofs.Kept.{head-kept}
use Rattle.strm_head.proofs.head.Head.read.Goals as goal

pub returns-clause-ready : goal.returns-clause-ready
returns-clause-ready g c =
    head-kept (g.B.Blocks.value c.args.store.now) (g.B.Blocks.value c.read.new.store) c.args.self.now.queue c.read.new.queue c.requires.ready c.read.ensures.keeps
