-- What is measured of the next message tells whether a read takes it.
use Rattle.strm_head.proofs.Prelude.{◌∙◌, sym, ap, not, ◌&&◌, nat_lt, unwrap_or}
use Rattle.strm_head.specs.Prelude.{first_size, list_at, messages_on}
use Rattle.strm_head.proofs.Seen.{first-goes, next-goes}
use Rattle.strm_head.proofs.standing.reaches_one.Goals as goal

pub returns-then-drops_control : goal.returns-then-drops_control
returns-then-drops_control g c =
    ap (λ n. nat_lt 0 n) (c.unwrap_or.ensures ∙ ap (λ o. unwrap_or o 0) c.next_data.ensures)
    ∙ next-goes c.args.control (list_at (g.B.Blocks.value c.args.store.now) c.args.queue.now.list) c.requires.readable.each (sym c.drops_control.ensures ∙ c.if-drops_control.true)

pub returns-then-not-starts_refused : goal.returns-then-not-starts_refused
returns-then-not-starts_refused g c =
    let q = messages_on (g.B.Blocks.value c.args.store.now) c.args.queue.now.list in
    ap (λ n. nat_lt 0 n) c.first_size.ensures
    ∙ sym (ap (λ b. not b && nat_lt 0 (first_size q)) (sym c.starts_refused.ensures ∙ c.if-not-starts_refused.true))
    ∙ first-goes c.args.control (list_at (g.B.Blocks.value c.args.store.now) c.args.queue.now.list) c.requires.readable.each (sym c.drops_control.ensures ∙ c.if-drops_control.false)
