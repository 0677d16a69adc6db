-- The message is freed, and the answer made.
use Rattle.strm_pty.proofs.Prelude.{arith}
use Rattle.strm_pty.specs.Prelude.{Iocnak, token}
use Rattle.strm_pty.proofs.Doing.{freed-then, makes-one, room-freed}
use Rattle.strm_pty.proofs.Made.{nak-plain, nak-parcel}
use Rattle.strm_pty.proofs.answering.answer.Goals as goal

pub make-message-requires-clause-kind : goal.make-message-requires-clause-kind
make-message-requires-clause-kind g c = nak-plain

pub returns-clause-swaps : goal.returns-clause-swaps
returns-clause-swaps g c =
    let s = g.B.Blocks.value c.args.store.now in
    let t = g.B.Blocks.value c.free.new.self in
    let u = g.B.Blocks.value c.make-message.new.store in
    let i = token c.args.message in
    let bytes = c.bytes-header.result in
    freed-then s t u i 1 _ _ c.audit.ensures c.requires.in_hand c.free.ensures
    (makes-one t u (record { to = c.toward.result; message = c.make-message.result }) Iocnak bytes _ _ c.make-message.ensures c.one.ensures
    (nak-parcel c.toward.result bytes c.args.here c.refused.result c.args.ioc c.toward.ensures c.bytes-header.ensures.bytes c.refused.ensures))

pub make-message-requires-clause-room : goal.make-message-requires-clause-room
make-message-requires-clause-room g c =
    let s = g.B.Blocks.value c.args.store.now in
    let t = g.B.Blocks.value c.free.new.self in
    room-freed s t (token c.args.message) 1 1 c.audit.ensures c.requires.in_hand c.free.ensures (omega arith) c.requires.room
