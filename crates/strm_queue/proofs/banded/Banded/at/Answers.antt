-- The flow control of a band is that of its row.
use Rattle.std.proofs.Common.{◌<◌, ap, subst, sym, ◌∙◌}
use Rattle.strm_queue.specs.Flows.{count_in}
use Rattle.strm_queue.specs.Rows.{all_rows, row_flow}
use Rattle.strm_queue.proofs.RowFlows.{row-at, row-few}
use Rattle.strm_queue.proofs.banded.Banded.at.Goals as goal

pub flow-requires-clause-few : goal.flow-requires-clause-few
flow-requires-clause-few c =
    let rows = all_rows c.self.inside.table.rows.items in
    subst (λ row. count_in (row_flow c.self.inside.common c.args.at row) < 4294967296) (sym c.row.ensures)
    (row-few c.self.inside.common rows c.self.invariant c.args.self.now c.self.view_is c.args.at c.requires.within c.requires.few)

pub returns-clause-flow : goal.returns-clause-flow
returns-clause-flow c =
    let rows = all_rows c.self.inside.table.rows.items in
    c.flow.ensures ∙ ap (row_flow c.self.inside.common c.args.at) c.row.ensures
    ∙ sym (row-at c.self.inside.common rows c.self.invariant c.args.self.now c.self.view_is c.args.at c.requires.within)
