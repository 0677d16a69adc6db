-- The kept flag is that of the messages on the list.
use Rattle.std.proofs.Common.{◌∙◌}
use Rattle.strm_blocks.specs.Blocks.{list_at}
use Rattle.strm_queue.proofs.FlowControl.{full-same}
use Rattle.strm_queue.proofs.standing.is_full.Goals as goal

pub returns : goal.returns
returns g c =
    let s = g.B.Blocks.value c.args.store.now in
    let q = c.args.queue.now in
    c.is_full.ensures.full (list_at s q.list) c.requires.ready.counted ∙ full-same s q c.args.band.0 c.requires.ready c.is_full.ensures.low
