-- The M_IOCTL is freed, the signal is made, and then the answer.
use Rattle.std.proofs.Common.{[], ◌∷◌, refl, arith}
use Rattle.strm_pty.proofs.Replied.{makes-as}
use Rattle.strm_pty.proofs.Doing.{freed-then, makes-both, room-freed, room-left}
use Rattle.strm_pty.proofs.replies.raise.Goals as goal
use Rattle.strm_blocks.specs.Blocks.{token}

pub signal_up-first-requires-clause-room : goal.signal_up-first-requires-clause-room
signal_up-first-requires-clause-room g c =
    let s = g.B.Blocks.value c.args.store.now in
    let t = g.B.Blocks.value c.free.new.self in
    room-freed s t (token c.args.message) 2 1 c.audit.ensures c.requires.in_hand c.free.ensures (omega arith) c.requires.room

pub ack_below-second-requires-clause-room : goal.ack_below-second-requires-clause-room
ack_below-second-requires-clause-room g c =
    let s = g.B.Blocks.value c.args.store.now in
    let t = g.B.Blocks.value c.free.new.self in
    let u = g.B.Blocks.value c.signal_up-first.new.store in
    room-left t u _ _ 1 1 c.signal_up-first.ensures.hands (room-freed s t (token c.args.message) 2 2 c.audit.ensures c.requires.in_hand c.free.ensures (omega arith) c.requires.room)

pub returns-clause-swaps : goal.returns-clause-swaps
returns-clause-swaps g c =
    let s = g.B.Blocks.value c.args.store.now in
    let t = g.B.Blocks.value c.free.new.self in
    let u = g.B.Blocks.value c.signal_up-first.new.store in
    let v = g.B.Blocks.value c.ack_below-second.new.store in
    let i = token c.args.message in
    freed-then s t v i 2 _ _ c.audit.ensures c.requires.in_hand c.free.ensures
    (makes-as t v 2 _ _ _ _ (makes-both t u v 1 1 (c.signal_up-first.result ∷ []) (c.ack_below-second.result ∷ []) _ _ c.signal_up-first.ensures c.ack_below-second.ensures) c.two.ensures refl)
