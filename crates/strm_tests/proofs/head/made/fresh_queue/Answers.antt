use Rattle.strm_tests.proofs.Fresh.{empty-head}
use Rattle.strm_tests.proofs.head.made.fresh_queue.Goals as goal

pub returns : goal.returns
returns g c = empty-head (g.B.Blocks.value c.args.store.now) c.new.result 3 c.new.ensures.list c.new.ensures.counted c.requires
