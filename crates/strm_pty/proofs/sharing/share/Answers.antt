-- One after the other. The second one stays as it is while the first one is sent.
use Rattle.strm_pty.proofs.Prelude.{◌≡◌, ◌<◌, [], ◌∷◌, ◌++◌, sym, ap, subst, ◌∙◌, arith}
use Rattle.strm_pty.specs.Prelude.{Ioc, Ioctl, Iocack, Up, Down, ioc_bytes, onward, bare, in_hand, token, bytes_of}
use Rattle.strm_types.specs.Ioctls.{asking}
use Rattle.strm_pty.specs.Does.{Swaps}
use Rattle.strm_pty.proofs.Doing.{once-none, room-left}
use Rattle.strm_pty.proofs.Hanging.{both-carry, sends-both}
use Rattle.strm_pty.proofs.Replied.{ack-plain, ioctl-plain}
use Rattle.strm_pty.proofs.sharing.share.Goals as goal

pub send_behind-first-requires-clause-kind : goal.send_behind-first-requires-clause-kind
send_behind-first-requires-clause-kind g c = ack-plain

pub send_behind-second-requires-clause-kind : goal.send_behind-second-requires-clause-kind
send_behind-second-requires-clause-kind g c = ioctl-plain

pub send_behind-second-requires-clause-in_hand : goal.send_behind-second-requires-clause-in_hand
send_behind-second-requires-clause-in_hand g c =
    let k = token c.args.both.1 in
    let moved = c.send_behind-first.ensures.swaps.hands.counts k in
    let one = c.audit.ensures.apart k in
    let other = once-none (token c.args.both.0) k c.requires.shared.apart in
    let there = c.requires.shared.second_in in
    omega (arith, moved, one, other, there)

pub send_behind-second-requires-clause-room : goal.send_behind-second-requires-clause-room
send_behind-second-requires-clause-room g c =
    let s = g.B.Blocks.value c.args.store.now in
    let u = g.B.Blocks.value c.send_behind-first.new.store in
    room-left s u _ _ 1 1 c.send_behind-first.ensures.swaps.hands c.requires.room

pub returns-clause-sends : goal.returns-clause-sends
returns-clause-sends g c =
    let s = g.B.Blocks.value c.args.store.now in
    let u = g.B.Blocks.value c.send_behind-first.new.store in
    let w = g.B.Blocks.value c.send_behind-second.new.store in
    let here = c.args.here in
    let r = token c.args.both.0 in
    let k = token c.args.both.1 in
    let x = c.send_behind-first.result in
    let y = c.send_behind-second.result in
    let shared = c.requires.shared in
    let given = bytes_of (in_hand s r) in
    let there : 0 < _ = (let is = shared.second_in in omega (arith, is)) in
    let same : bytes_of (in_hand u k) ≡ given = ap bytes_of (c.send_behind-first.ensures.swaps.hands.others k (once-none r k shared.apart) there ∙ shared.second_is ∙ sym shared.first_is) in
    let answer = c.bytes-answer.ensures.bytes ∙ ap (λ (header : Ioc). ioc_bytes header) c.acked.ensures in
    let telling = c.bytes-telling.ensures.bytes ∙ ap (λ (header : Ioc). ioc_bytes header) c.asking.ensures in
    let one = subst (λ ps. Swaps s u r 1 (x ∷ []) ps) (ap (λ xs. onward Up here (bare Iocack (xs ++ given)) ∷ []) answer) c.send_behind-first.ensures.swaps in
    let two = subst (λ ps. Swaps u w k 1 (y ∷ []) ps)
    (ap (λ xs. onward Down here (bare Ioctl (xs ++ bytes_of (in_hand u k))) ∷ []) telling ∙ ap (λ xs. onward Down here (bare Ioctl (ioc_bytes (asking c.args.ioc.command 0) ++ xs)) ∷ []) same) c.send_behind-second.ensures.swaps in
    sends-both s u w r k shared c.audit.ensures x y _ _ one two

pub returns-clause-carries : goal.returns-clause-carries
returns-clause-carries g c =
    let s = g.B.Blocks.value c.args.store.now in
    let u = g.B.Blocks.value c.send_behind-first.new.store in
    let w = g.B.Blocks.value c.send_behind-second.new.store in
    let first = c.send_behind-first.ensures in
    let second = c.send_behind-second.ensures in
    both-carry s u w (token c.args.both.0) (token c.args.both.1) c.requires.shared c.audit.ensures c.send_behind-first.result c.send_behind-second.result _ _ first.swaps second.swaps first.carries second.carries
