-- The M_IOCTL is freed; its answer is made, and then what tells of it.
use Rattle.strm_pty.proofs.Prelude.{[], ◌∷◌, ◌++◌, refl, ap, ◌∙◌, arith}
use Rattle.strm_pty.specs.Prelude.{Ioc, Ioctl, Iocack, Up, Down, ioc_bytes, onward, bare, token}
use Rattle.strm_pty.proofs.Replied.{ack-plain, ioctl-plain, makes-as}
use Rattle.strm_pty.proofs.Doing.{freed-then, makes-both, room-freed, room-left}
use Rattle.strm_pty.proofs.replies.copy_both.Goals as goal

pub send-first-requires-clause-kind : goal.send-first-requires-clause-kind
send-first-requires-clause-kind g c = ack-plain

pub send-second-requires-clause-kind : goal.send-second-requires-clause-kind
send-second-requires-clause-kind g c = ioctl-plain

pub send-first-requires-clause-room : goal.send-first-requires-clause-room
send-first-requires-clause-room g c =
    let s = g.B.Blocks.value c.args.store.now in
    let t = g.B.Blocks.value c.free.new.self in
    room-freed s t (token c.args.message) 2 1 c.audit.ensures c.requires.in_hand c.free.ensures (omega arith) c.requires.room

pub send-second-requires-clause-room : goal.send-second-requires-clause-room
send-second-requires-clause-room g c =
    let s = g.B.Blocks.value c.args.store.now in
    let t = g.B.Blocks.value c.free.new.self in
    let u = g.B.Blocks.value c.send-first.new.store in
    room-left t u _ _ 1 1 c.send-first.ensures.hands (room-freed s t (token c.args.message) 2 2 c.audit.ensures c.requires.in_hand c.free.ensures (omega arith) c.requires.room)

pub returns : goal.returns
returns g c =
    let s = g.B.Blocks.value c.args.store.now in
    let t = g.B.Blocks.value c.free.new.self in
    let u = g.B.Blocks.value c.send-first.new.store in
    let v = g.B.Blocks.value c.send-second.new.store in
    let here = c.args.here in
    let given = c.args.given.now in
    let first = c.send-first.result in
    let second = c.send-second.result in
    let answer = c.as_slice.ensures.value ∙ c.framed-answer.ensures.bytes ∙ ap (λ (header : Ioc). ioc_bytes header ++ given) c.acked.ensures in
    let telling = c.as_slice-2.ensures.value ∙ c.framed-telling.ensures.bytes ∙ ap (λ (header : Ioc). ioc_bytes header ++ given) c.asking.ensures in
    let one = makes-as t u 1 _ _ _ _ c.send-first.ensures refl (ap (λ xs. onward Up here (bare Iocack xs) ∷ []) answer) in
    let two = makes-as u v 1 _ _ _ _ c.send-second.ensures refl (ap (λ xs. onward Down here (bare Ioctl xs) ∷ []) telling) in
    freed-then s t v (token c.args.message) 2 _ _ c.audit.ensures c.requires.in_hand c.free.ensures (makes-both t u v 1 1 (first ∷ []) (second ∷ []) _ _ one two)
