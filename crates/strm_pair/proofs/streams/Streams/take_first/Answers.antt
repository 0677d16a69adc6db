-- The driver's first message.
use Rattle.strm_pair.proofs.TurnSteps.{took}
use Rattle.strm_pair.proofs.streams.Streams.take_first.Goals as goal

pub returns : goal.returns
returns g c =
    rw c.get_mut.ensures.value
    (took c.args.side (g.B.Blocks.value c.args.store.now) (g.B.Blocks.value c.dequeue.new.store) c.args.self.now c.dequeue.new.queue c.dequeue.result c.requires.held.beside c.requires.idle (rw c.get_mut.ensures.value at c.dequeue.ensures))
