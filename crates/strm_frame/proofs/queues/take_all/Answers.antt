-- Each message that goes is looked at, and in the end none is left.
use Rattle.strm_frame.proofs.Prelude.{ap, ◌||◌}
use Rattle.strm_frame.specs.Prelude.{list_at, token, Dequeued}
use Rattle.strm_frame.proofs.Seeking.{going-on, gone-queue}
use Rattle.strm_frame.proofs.Emptiness.{none-listed}
use Rattle.strm_frame.proofs.queues.take_all.Goals as goal

pub loop-store-preserved : goal.loop-store-preserved
loop-store-preserved g c =
    let l = c.loop-store in
    let t = g.B.Blocks.value c.dequeue.new.store in
    let i = token c.in-Some.message in
    let is : Dequeued (g.B.Blocks.value l.store) t l.queue c.dequeue.new.queue i = rw c.in-Some.is at c.dequeue.ensures in
    record {
      going = going-on c.args.number (g.B.Blocks.value c.args.store.now) (g.B.Blocks.value l.store) t (g.B.Blocks.value c.free.new.self) c.args.queue.now l.queue c.dequeue.new.queue l.met _ i
          l.invariant.going is c.audit.ensures c.free.ensures (ap (λ b. l.met || b) c.is_ioctl_of-met.ensures);
    }

pub returns-clause-queue : goal.returns-clause-queue
returns-clause-queue g c =
    let l = c.loop-store in
    let t = g.B.Blocks.value l.store in
    gone-queue c.args.number (g.B.Blocks.value c.args.store.now) t c.args.queue.now l.queue l.met l.invariant.going
    (none-listed (list_at t l.queue.list) c.is_empty.result c.is_empty.ensures c.loop-store-test.false)
