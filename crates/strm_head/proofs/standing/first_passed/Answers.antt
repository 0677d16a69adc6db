-- What is measured of the first message tells whether a read passes it over.
use Rattle.strm_head.proofs.Prelude.{◌∙◌, sym, ap, is_none}
use Rattle.strm_head.specs.Prelude.{list_at, messages_on}
use Rattle.strm_head.proofs.Seen.{absent, first-kept, first-left}
use Rattle.strm_head.proofs.standing.first_passed.Goals as goal

pub returns-then-not-drops_control : goal.returns-then-not-drops_control
returns-then-not-drops_control g c =
    first-kept c.args.control (messages_on (g.B.Blocks.value c.args.store.now) c.args.queue.now.list) (sym c.drops_control.ensures ∙ c.if-not-drops_control.true)

pub returns-then-not-is_empty : goal.returns-then-not-is_empty
returns-then-not-is_empty g c =
    absent c.first_data.result c.is_none.result c.is_none.ensures ∙ ap is_none c.first_data.ensures
    ∙ first-left c.args.control (list_at (g.B.Blocks.value c.args.store.now) c.args.queue.now.list) c.requires.readable.each (sym c.drops_control.ensures ∙ c.if-not-drops_control.false) (sym c.is_empty.ensures ∙ c.if-not-is_empty.true)
