-- The message stands on the queue of the way, and the other one stays.
use Rattle.std.proofs.Common.{sym, subst}
use Rattle.strm_frame.specs.Prelude.{token}
use Rattle.strm_frame.specs.Queued.{PutsOn}
use Rattle.strm_frame.proofs.Queued.{puts-down, puts-up}
use Rattle.strm_frame.proofs.queue_pair.QueuePair.put.Goals as goal

pub returns-in-Up : goal.returns-in-Up
returns-in-Up g c =
    let s = g.B.Blocks.value c.args.store.now in
    let t = g.B.Blocks.value c.enqueue.new.store in
    let pair = c.args.self.now in
    let i = token c.args.message in
    let e = c.enqueue.ensures in
    subst (λ w. PutsOn s t pair (record pair { read = c.enqueue.new.queue }) w i c.enqueue.result) (sym c.in-Up.is)
    (puts-up s t pair i c.audit.ensures c.requires.in_hand c.requires.ready c.enqueue.new.queue c.enqueue.result e.frees e.blocks e.changes e.queue e.enables)

pub returns-in-Down : goal.returns-in-Down
returns-in-Down g c =
    let s = g.B.Blocks.value c.args.store.now in
    let t = g.B.Blocks.value c.enqueue-in-Down.new.store in
    let pair = c.args.self.now in
    let i = token c.args.message in
    let e = c.enqueue-in-Down.ensures in
    subst (λ w. PutsOn s t pair (record pair { write = c.enqueue-in-Down.new.queue }) w i c.enqueue-in-Down.result) (sym c.in-Down.is)
    (puts-down s t pair i c.audit.ensures c.requires.in_hand c.requires.ready c.enqueue-in-Down.new.queue c.enqueue-in-Down.result e.frees e.blocks
    e.changes e.queue e.enables)
