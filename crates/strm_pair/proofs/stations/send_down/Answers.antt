-- What goes down is one message that was made, or none.
use Rattle.strm_pair.proofs.Prelude.{◌+◌, cond, sym, ap, subst, ◌∙◌, arith, None}
use Rattle.strm_pair.specs.Prelude.{Down, toward, Message, is_there, down_message, sent_down, sent_of, Makes}
use Rattle.strm_pty.proofs.Doing.{makes-none, makes-one}
use Rattle.strm_pair.proofs.PutSteps.{down-plain}
use Rattle.strm_pair.proofs.stations.send_down.Goals as goal

pub returns-in_default-clause-makes : goal.returns-in_default-clause-makes
returns-in_default-clause-makes g c =
    let s = g.B.Blocks.value c.args.store.now in
    let made = sent_of c.none.result in
    subst (λ d. Makes s s (cond (is_there d) 1 0) made (sent_down c.args.here d)) (sym c.in_default.is) (makes-none s 0 made c.none.ensures)

pub returns-clause-makes : goal.returns-clause-makes
returns-clause-makes g c =
    let s = g.B.Blocks.value c.args.store.now in
    let t = g.B.Blocks.value c.make_down-message.new.store in
    let made = sent_of c.one.result in
    let here = c.args.here in
    let down = c.in-Some.down in
    let m = down_message down in
    let plain : Message _ = record { kind = m.kind; band = 0; control = None; body = None; plain = m.plain } in
    subst (λ d. Makes s t (cond (is_there d) 1 0) made (sent_down here d)) (sym c.in-Some.is)
    (makes-one s t (record { to = record here { at = 1; way = Down }; message = c.make_down-message.result }) m.kind m.plain made
    (record { to = toward Down here; message = m }) c.make_down-message.ensures c.one.ensures
    (ap (λ n. record { to = record here { at = n + 1; way = Down }; message = plain }) (sym c.requires.top) ∙ ap (λ x. record { to = toward Down here; message = x }) (down-plain down)))

pub returns-in_default-clause-blocks : goal.returns-in_default-clause-blocks
returns-in_default-clause-blocks g c = (omega arith, omega arith)

pub returns-clause-blocks : goal.returns-clause-blocks
returns-clause-blocks g c =
    let e = c.make_down-message.ensures in
    (let m = e.room_m in omega arith, let d = e.room_d in omega arith)
