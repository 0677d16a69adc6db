-- What is common to all bands says it of the row of each.
use Rattle.std.proofs.Common.{ap, ◌∙◌}
use Rattle.strm_queue.specs.Flows.{plain_flow}
use Rattle.strm_queue.specs.Rows.{all_rows, row_at}
use Rattle.strm_queue.proofs.RowFlows.{row-at}
use Rattle.strm_queue.proofs.banded.Banded.shared.Goals as goal

pub returns-in-Some : goal.returns-in-Some
returns-in-Some c = λ at lt.
    let b = c.self.inside in
    ap plain_flow (row-at b.common (all_rows b.table.rows.items) c.self.invariant c.args.self.now c.self.view_is at lt) ∙ c.in-Some.ensures at (row_at at (all_rows b.table.rows.items)) lt
