-- What is no signal is refused; else it goes up.
use Rattle.strm_pty.proofs.Prelude.{◌≡◌, [], ◌∷◌, sym, ap, subst, ◌∙◌, arith, asked-plain}
use Rattle.strm_pty.specs.Prelude.{Down, ack_message, payload, onward, own_at, ptem_does, message_in, token}
use Rattle.strm_types.specs.Ptems.{signal_told, signals_up}
use Rattle.strm_types.specs.Signals.{signal_in}
use Rattle.strm_pty.specs.Beside.{Answers, ptem_in}
use Rattle.strm_frame.proofs.Behind.{signal-first}
use Rattle.strm_pty.proofs.Costing.{below-own}
use Rattle.strm_pty.proofs.Replied.{refuse-below, swaps-answers}
use Rattle.strm_pty.proofs.ptem.hear_signal.Goals as goal

pub payload_of-given-requires-clause-kind : goal.payload_of-given-requires-clause-kind
payload_of-given-requires-clause-kind g c = asked-plain (g.B.Blocks.value c.args.store.now) (token c.args.message) c.requires.asked

pub returns-in-None : goal.returns-in-None
returns-in-None g c =
    let s = g.B.Blocks.value c.args.store.now in
    let t = g.B.Blocks.value c.nak.new.store in
    let i = token c.args.message in
    let here = c.args.here in
    let p = payload (message_in s i).plain in
    let x = c.args.ptem.now in
    let said : c.signal_in.result ≡ signal_in p = c.signal_in.ensures ∙ ap signal_in (c.as_slice.ensures.value ∙ c.payload_of-given.ensures) ∙ signal-first p in
    subst (λ o. Answers s t x i (own_at ptem_does here (message_in s i)) c.nak.result (signal_told here c.args.ioc o (ptem_in x))) (sym c.in-None.is ∙ said)
    (refuse-below s t i here c.args.ioc c.nak.result c.nak.ensures.notes x c.requires c.nak.ensures.swaps)

pub returns-in-Some : goal.returns-in-Some
returns-in-Some g c =
    let s = g.B.Blocks.value c.args.store.now in
    let t = g.B.Blocks.value c.raise.new.store in
    let i = token c.args.message in
    let here = c.args.here in
    let ioc = c.args.ioc in
    let m = message_in s i in
    let p = payload m.plain in
    let x = c.args.ptem.now in
    let signal = c.in-Some.signal in
    let said : c.signal_in.result ≡ signal_in p = c.signal_in.ensures ∙ ap signal_in (c.as_slice.ensures.value ∙ c.payload_of-given.ensures) ∙ signal-first p in
    subst (λ o. Answers s t x i (own_at ptem_does here m) c.raise.result (signal_told here ioc o (ptem_in x))) (sym c.in-Some.is ∙ said)
    (swaps-answers s t x i 2 (own_at ptem_does here m) c.raise.result (signals_up here signal ∷ (onward Down here (ack_message ioc []) ∷ [])) c.raise.ensures.notes c.raise.ensures.swaps
    (omega (arith, below-own here m c.requires.asked c.requires.goes)))
