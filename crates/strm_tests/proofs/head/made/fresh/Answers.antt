use Rattle.std.proofs.Common.{sym, subst}
use Rattle.strm_queue.specs.Stored.{IsHeadQueue}
use Rattle.strm_tests.proofs.head.made.fresh.Goals as goal

pub returns : goal.returns
returns g c = subst (IsHeadQueue (g.B.Blocks.value c.args.store.now)) (sym c.new.ensures.queue) c.fresh_queue.ensures
