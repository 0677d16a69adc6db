-- A payload of another length is refused; else it is kept, and told.
use Rattle.strm_pty.proofs.Prelude.{◌≡◌, sym, subst, ◌∙◌, arith, None, Some, asked-plain, window_read}
use Rattle.strm_pty.specs.Prelude.{payload, own_at, ptem_does, read_winsize, message_in, sent_of, token}
use Rattle.strm_types.specs.Ptems.{window_set}
use Rattle.strm_pty.specs.Beside.{Answers, ptem_in}
use Rattle.strm_pty.proofs.Carried.{lone-carries}
use Rattle.strm_pty.proofs.Replied.{read-all, read-whole, refuse-above, set-answers}
use Rattle.strm_pty.proofs.ptem.set_window.Goals as goal

pub payload_of-given-requires-clause-kind : goal.payload_of-given-requires-clause-kind
payload_of-given-requires-clause-kind g c = asked-plain (g.B.Blocks.value c.args.store.now) (token c.args.message) c.requires.asked

pub confirm-requires-clause-kind : goal.confirm-requires-clause-kind
confirm-requires-clause-kind g c = asked-plain (g.B.Blocks.value c.args.store.now) (token c.args.message) c.requires.asked

pub confirm-requires-clause-given : goal.confirm-requires-clause-given
confirm-requires-clause-given g c =
    let p = payload (message_in (g.B.Blocks.value c.args.store.now) (token c.args.message)).plain in
    c.as_slice-2.ensures.value ∙ sym c.as_slice.ensures.value
    ∙ read-whole window_read 8 p _ _ (omega arith) c.read.ensures (c.as_slice.ensures.value ∙ c.payload_of-given.ensures) c.in-Some.window c.in-Some.is

pub returns-in_default-clause-does : goal.returns-in_default-clause-does
returns-in_default-clause-does g c =
    let s = g.B.Blocks.value c.args.store.now in
    let t = g.B.Blocks.value c.nak.new.store in
    let i = token c.args.message in
    let here = c.args.here in
    let p = payload (message_in s i).plain in
    let x = c.args.ptem.now in
    let none : read_winsize p ≡ None = read-all window_read 8 p _ _ (omega arith) c.read.ensures (c.as_slice.ensures.value ∙ c.payload_of-given.ensures) None c.in_default.is in
    subst (λ o. Answers s t x i (own_at ptem_does here (message_in s i)) c.nak.result (window_set here c.args.ioc p o (ptem_in x))) (sym none)
    (refuse-above s t i here c.args.ioc c.nak.result c.nak.ensures.notes x c.requires c.nak.ensures.swaps)

pub returns-clause-does : goal.returns-clause-does
returns-clause-does g c =
    let s = g.B.Blocks.value c.args.store.now in
    let t = g.B.Blocks.value c.confirm.new.store in
    let i = token c.args.message in
    let here = c.args.here in
    let p = payload (message_in s i).plain in
    let x = c.args.ptem.now in
    let v = c.in-Some.window in
    let x' = record x { window = v } in
    let said : read_winsize p ≡ Some v = read-all window_read 8 p _ _ (omega arith) c.read.ensures (c.as_slice.ensures.value ∙ c.payload_of-given.ensures) (Some v) c.in-Some.is in
    let whole = read-whole window_read 8 p _ _ (omega arith) c.read.ensures (c.as_slice.ensures.value ∙ c.payload_of-given.ensures) v c.in-Some.is in
    subst (λ o. Answers s t x' i (own_at ptem_does here (message_in s i)) c.confirm.result (window_set here c.args.ioc p o (ptem_in x))) (sym said)
    (set-answers s t i here c.args.ioc c.confirm.result c.confirm.ensures.notes x x' c.as_slice-2.result.now p c.requires (c.as_slice-2.ensures.value ∙ sym c.as_slice.ensures.value ∙ whole) c.confirm.ensures.swaps)

pub returns-in_default-clause-shared : goal.returns-in_default-clause-shared
returns-in_default-clause-shared g c = λ can. lone-carries (g.B.Blocks.value c.nak.new.store) _ (sent_of c.nak.result.sent) _ c.nak.ensures.swaps.sent

pub returns-clause-shared : goal.returns-clause-shared
returns-clause-shared g c = c.confirm.ensures.shared
