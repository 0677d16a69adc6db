-- The M_IOCTL is freed, and its answer is made.
use Rattle.strm_pty.proofs.Prelude.{[], ◌∷◌, ◌++◌, ap, ◌∙◌, arith}
use Rattle.strm_pty.specs.Prelude.{Ioc, Iocack, Up, ioc_bytes, onward, bare, token}
use Rattle.strm_pty.proofs.Replied.{ack-plain, makes-as}
use Rattle.strm_pty.proofs.Doing.{freed-then, room-freed}
use Rattle.strm_pty.proofs.replies.ack.Goals as goal

pub send-sent-requires-clause-kind : goal.send-sent-requires-clause-kind
send-sent-requires-clause-kind g c = ack-plain

pub send-sent-requires-clause-room : goal.send-sent-requires-clause-room
send-sent-requires-clause-room g c =
    let s = g.B.Blocks.value c.args.store.now in
    let t = g.B.Blocks.value c.free.new.self in
    room-freed s t (token c.args.message) 1 1 c.audit.ensures c.requires.in_hand c.free.ensures (omega arith) c.requires.room

pub returns-clause-swaps : goal.returns-clause-swaps
returns-clause-swaps g c =
    let s = g.B.Blocks.value c.args.store.now in
    let t = g.B.Blocks.value c.free.new.self in
    let u = g.B.Blocks.value c.send-sent.new.store in
    let i = token c.args.message in
    let here = c.args.here in
    let bytes = c.as_slice.ensures.value ∙ c.framed-answer.ensures.bytes ∙ ap (λ (header : Ioc). ioc_bytes header ++ c.args.given.now) c.acked.ensures in
    freed-then s t u i 1 _ _ c.audit.ensures c.requires.in_hand c.free.ensures
    (makes-as t u 1 _ _ _ _ c.send-sent.ensures c.one.ensures (ap (λ xs. onward Up here (bare Iocack xs) ∷ []) bytes))
