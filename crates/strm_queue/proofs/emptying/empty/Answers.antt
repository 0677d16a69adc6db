-- To let a writer go changes flags alone.
use Rattle.strm_blocks.specs.Blocks.{list_at}
use Rattle.strm_queue.proofs.Kept.{keeps-counted}
use Rattle.strm_queue.proofs.emptying.empty.Goals as goal

pub returns-clause-keeps : goal.returns-clause-keeps
returns-clause-keeps g c =
    let s = g.B.Blocks.value c.args.store.now in
    let t = g.B.Blocks.value c.drop_chosen.new.store in
    let p = c.drop_chosen.new.queue in
    keeps-counted s t c.args.queue.now p c.relieve.new.queue c.drop_chosen.ensures.keeps c.relieve.ensures.others.list
    (c.relieve.ensures.counted (list_at t p.list) c.drop_chosen.ensures.keeps.ready.counted)
