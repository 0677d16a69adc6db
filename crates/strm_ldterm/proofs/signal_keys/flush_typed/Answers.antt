-- The line goes, and then the message is made.
use Rattle.strm_ldterm.proofs.Prelude.{ℕ, List, [], ◌∷◌, subst, ◌∙◌}
use Rattle.strm_ldterm.specs.Prelude.{Up, flush_message, flush_bytes, onward, sends}
use Rattle.strm_ldterm.specs.Does.{Proceeds}
use Rattle.strm_ldterm.specs.Stands.{ldterm_in, paired}
use Rattle.strm_ldterm.proofs.Flushed.{kept-still}
use Rattle.strm_ldterm.proofs.Signals.{flush-plain, flush-proceeds}
use Rattle.strm_ldterm.proofs.signal_keys.flush_typed.Goals as goal

pub send_up-requires-clause-kind : goal.send_up-requires-clause-kind
send_up-requires-clause-kind g c = flush-plain

pub returns-clause-does : goal.returns-clause-does
returns-clause-does g c = λ q held kept.
    let s = g.B.Blocks.value c.args.store.now in
    let t = g.B.Blocks.value c.send_up.new.store in
    let x = paired c.args.ldterm.now q in
    let y = paired c.flush_line.new.ldterm q in
    let here = c.args.here in
    let f' = c.flush_line.new.told in
    let line = c.flush_line.ensures s q held in
    flush-proceeds s t x y c.send_up.result here (flush_bytes c.args.asked) c.args.told.now f' c.audit.ensures kept line
    (subst (λ (bytes : List ℕ). Proceeds s t y y 1 [] (c.send_up.result ∷ []) f' f' (sends (onward Up here (flush_message bytes) ∷ []) (ldterm_in s y))) (c.as_slice.ensures.value ∙ c.bytes-bytes.ensures)
    (c.send_up.ensures.does y f' line.alters.held (kept-still s s x y line.alters kept)))
