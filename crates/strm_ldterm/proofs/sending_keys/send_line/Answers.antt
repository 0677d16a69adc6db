-- The line goes up in one message, and is empty then.
use Rattle.strm_ldterm.proofs.Prelude.{ℕ, List, ◌++◌, refl, ap, subst}
use Rattle.strm_ldterm.specs.Prelude.{Up, plain, toward, data_message, line_sent, token}
use Rattle.strm_ldterm.specs.Sending.{MadeOne}
use Rattle.strm_ldterm.specs.Stands.{ldterm_in, paired}
use Rattle.strm_ldterm.proofs.Sends.{sends-made, held-line}
use Rattle.strm_ldterm.proofs.sending_keys.send_line.Goals as goal

pub returns : goal.returns
returns g c = λ q f held kept.
    let s = g.B.Blocks.value c.args.store.now in
    let t = g.B.Blocks.value c.make_line-message.new.store in
    let x = (paired c.args.ldterm.now q) in
    let p = ldterm_in s x in
    sends-made s t x (record x { line = c.clear.new.self }) (record { to = c.toward.result; message = c.make_line-message.result }) _ f f
    (data_message (x.line ++ c.args.ending.now)) (toward Up c.args.here) (line_sent plain c.args.here (p.line ++ c.args.ending.now) p)
    (held-line s x c.clear.new.self held) kept (λ k. refl) (λ i. refl)
    (subst (λ l. MadeOne s t (token c.make_line-message.result) (data_message (l ++ c.args.ending.now))) c.bytes.ensures.value c.make_line-message.ensures) c.one.ensures c.toward.ensures
    (ap (λ (l : List ℕ). record p { line = l }) c.clear.ensures.line) refl refl refl
