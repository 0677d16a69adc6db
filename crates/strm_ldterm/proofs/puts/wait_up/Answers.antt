-- The message stands on the read queue.
use Rattle.strm_frame.proofs.Handing.{can-in_hand}
use Rattle.strm_ldterm.proofs.Steps.{waits-up}
use Rattle.strm_ldterm.proofs.puts.wait_up.Goals as goal
use Rattle.strm_blocks.specs.Blocks.{token}
use Rattle.strm_ldterm.specs.Stands.{paired}

pub enqueue-enables-requires-clause-in_hand : goal.enqueue-enables-requires-clause-in_hand
enqueue-enables-requires-clause-in_hand g c = can-in_hand _ _ _ c.audit.ensures c.requires.can_put

pub returns-clause-does : goal.returns-clause-does
returns-clause-does g c = λ f.
    let e = c.enqueue-enables in
    waits-up (g.B.Blocks.value c.args.store.now) (g.B.Blocks.value e.new.store) (paired c.args.ldterm.now c.args.queues.now) (token c.args.message) e.new.queue
    (record { notes = c.note_if.result; sent = c.none.result }) f e.result c.audit.ensures c.requires.held c.requires.can_put e.ensures.frees c.none.ensures
    e.ensures.changes e.ensures.queue e.ensures.enables c.note_if.ensures
