-- What is taken is the last chain of the list.
use Rattle.std.proofs.Common.{arith}
use Rattle.strm_queue.proofs.Lasting.{taken-last}
use Rattle.strm_queue.proofs.taking.take_last.Goals as goal

pub returns : goal.returns
returns g c =
    let s = g.B.Blocks.value c.args.store.now in
    let q = c.args.queue.now in
    let e = c.take_last.ensures in
    taken-last s (g.B.Blocks.value c.take_last.new.store) q c.take_last.new.self c.take_last.result (let low = q.on_list in omega (arith, low, c.audit.ensures.eight)) c.requires e.taken e.counted e.flows e.others
