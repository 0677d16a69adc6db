-- What is taken is the first chain of the list.
use Rattle.std.proofs.Common.{arith}
use Rattle.strm_queue.proofs.Dequeuing.{taken-first}
use Rattle.strm_queue.proofs.standing.dequeue.Goals as goal

pub returns : goal.returns
returns g c =
    let s = g.B.Blocks.value c.args.store.now in
    let q = c.args.queue.now in
    let e = c.getq.ensures in
    taken-first s (g.B.Blocks.value c.getq.new.store) q c.getq.new.self c.getq.result (let low = q.on_list in omega (arith, low, c.audit.ensures.eight)) c.requires e.taken e.counted e.flows e.want_read e.list e.no_enable
