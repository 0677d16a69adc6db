-- The message stands on the queue.
use Rattle.strm_pty.proofs.Taken.{keep-does}
use Rattle.strm_pty.proofs.taking.take_in.Goals as goal
use Rattle.strm_blocks.specs.Blocks.{token}

pub returns-clause-does : goal.returns-clause-does
returns-clause-does g c =
    let e = c.enqueue-enables in
    keep-does (g.B.Blocks.value c.args.store.now) (g.B.Blocks.value e.new.store) (token c.args.message) _ c.args.told.now c.args.side c.args.across c.args.queue.now e.new.queue e.result
    c.audit.ensures c.requires.in_hand e.ensures.queue e.ensures.enables e.ensures.changes e.ensures.frees c.note_if.ensures c.none.ensures c.if-across.false
