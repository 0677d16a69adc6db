-- The kept count is that of the messages on the list.
use Rattle.std.proofs.Common.{◌∙◌}
use Rattle.strm_blocks.specs.Blocks.{list_at}
use Rattle.strm_queue.proofs.Chains.{count-same}
use Rattle.strm_queue.proofs.standing.count.Goals as goal

pub returns : goal.returns
returns g c =
    let q = list_at (g.B.Blocks.value c.args.store.now) c.args.queue.now.list in
    c.count.ensures.count q c.requires.ready.counted ∙ count-same c.args.band.0 q c.requires.ready.messages.chains
