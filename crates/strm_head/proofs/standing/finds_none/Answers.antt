-- Under RPROTDIS nothing is found where no message has a data part, and else where none stands.
use Rattle.strm_head.proofs.Prelude.{◌∙◌, sym, ap, is_none}
use Rattle.strm_head.specs.Prelude.{list_at}
use Rattle.strm_head.proofs.Seen.{absent, none-found, quick-none}
use Rattle.strm_head.proofs.standing.finds_none.Goals as goal

pub returns-then-not-drops_control : goal.returns-then-not-drops_control
returns-then-not-drops_control g c =
    c.is_empty.ensures ∙ quick-none c.args.control (list_at (g.B.Blocks.value c.args.store.now) c.args.queue.now.list) (sym c.drops_control.ensures ∙ c.if-not-drops_control.true)

pub returns : goal.returns
returns g c =
    absent c.next_data.result c.is_none.result c.is_none.ensures ∙ ap is_none c.next_data.ensures
    ∙ none-found c.args.control (list_at (g.B.Blocks.value c.args.store.now) c.args.queue.now.list) c.requires.readable.each (sym c.drops_control.ensures ∙ c.if-not-drops_control.false)
