-- A payload of another length is refused; else it is kept, and those above hear of a change.
use Rattle.strm_pty.proofs.Prelude.{◌≡◌, [], ◌∷◌, ◌++◌, sym, subst, ◌∙◌, arith, None, Some, asked-plain, window_read}
use Rattle.strm_pty.specs.Prelude.{Down, ack_message, payload, onward, own_at, ptem_does, window_signal, read_winsize, message_in, token}
use Rattle.strm_types.specs.Ptems.{window_told}
use Rattle.strm_pty.specs.Beside.{Answers, ptem_in}
use Rattle.strm_pty.proofs.Costing.{below-own}
use Rattle.strm_pty.proofs.Replied.{read-all, refuse-below, swaps-answers}
use Rattle.strm_pty.proofs.ptem.hear_window.Goals as goal

pub payload_of-given-requires-clause-kind : goal.payload_of-given-requires-clause-kind
payload_of-given-requires-clause-kind g c = asked-plain (g.B.Blocks.value c.args.store.now) (token c.args.message) c.requires.asked

pub returns-in_default : goal.returns-in_default
returns-in_default g c =
    let s = g.B.Blocks.value c.args.store.now in
    let t = g.B.Blocks.value c.nak.new.store in
    let i = token c.args.message in
    let here = c.args.here in
    let p = payload (message_in s i).plain in
    let x = c.args.ptem.now in
    let none : read_winsize p ≡ None = read-all window_read 8 p _ _ (omega arith) c.read.ensures (c.as_slice.ensures.value ∙ c.payload_of-given.ensures) None c.in_default.is in
    subst (λ o. Answers s t x i (own_at ptem_does here (message_in s i)) c.nak.result (window_told here c.args.ioc o (ptem_in x))) (sym none)
    (refuse-below s t i here c.args.ioc c.nak.result c.nak.ensures.notes x c.requires c.nak.ensures.swaps)

pub returns : goal.returns
returns g c =
    let s = g.B.Blocks.value c.args.store.now in
    let t = g.B.Blocks.value c.hear.new.store in
    let i = token c.args.message in
    let here = c.args.here in
    let ioc = c.args.ioc in
    let m = message_in s i in
    let p = payload m.plain in
    let x = c.args.ptem.now in
    let v = c.in-Some.window in
    let x' = record x { window = v } in
    let said : read_winsize p ≡ Some v = read-all window_read 8 p _ _ (omega arith) c.read.ensures (c.as_slice.ensures.value ∙ c.payload_of-given.ensures) (Some v) c.in-Some.is in
    subst (λ o. Answers s t x' i (own_at ptem_does here m) c.hear.result (window_told here ioc o (ptem_in x))) (sym said)
    (swaps-answers s t x' i 2 (own_at ptem_does here m) c.hear.result (window_signal here x.window v ++ onward Down here (ack_message ioc []) ∷ []) c.hear.ensures.notes c.hear.ensures.swaps
    (omega (arith, below-own here m c.requires.asked c.requires.goes)))
