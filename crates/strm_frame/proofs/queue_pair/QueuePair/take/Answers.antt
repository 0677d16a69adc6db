-- The first message of the queue of the way is taken, and the other one stays.
use Rattle.strm_frame.specs.Standings.{IsPairReady}
use Rattle.strm_frame.proofs.Queued.{taken-down, taken-up}
use Rattle.strm_frame.proofs.queue_pair.QueuePair.take.Goals as goal

pub returns-in-Up : goal.returns-in-Up
returns-in-Up g c =
    let s = g.B.Blocks.value c.args.store.now in
    let t = g.B.Blocks.value c.dequeue.new.store in
    let ready : IsPairReady s c.args.self.now = record { read = c.requires.read; write = c.requires.write; apart = c.requires.apart } in
    taken-up s t c.args.self.now ready c.dequeue.new.queue c.args.way c.dequeue.result c.in-Up.is c.dequeue.ensures

pub returns-in-Down : goal.returns-in-Down
returns-in-Down g c =
    let s = g.B.Blocks.value c.args.store.now in
    let t = g.B.Blocks.value c.dequeue-in-Down.new.store in
    let ready : IsPairReady s c.args.self.now = record { read = c.requires.read; write = c.requires.write; apart = c.requires.apart } in
    taken-down s t c.args.self.now ready c.dequeue-in-Down.new.queue c.args.way c.dequeue-in-Down.result c.in-Down.is c.dequeue-in-Down.ensures
