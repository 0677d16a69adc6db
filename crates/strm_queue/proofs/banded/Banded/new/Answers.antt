use Rattle.strm_queue.specs.Rows.{all_rows}
use Rattle.strm_queue.proofs.AllRows.{are-all}
use Rattle.strm_queue.proofs.FreshRows.{all-fresh}
use Rattle.strm_queue.proofs.banded.Banded.new.Goals as goal

pub returns : goal.returns
returns c =
    let e = c.new.ensures in
    let rows = c.args.table.rows.items in
    all-fresh c.new.result c.args.high c.args.low e.high e.low e.marked e.filled e.waiting c.requires (all_rows rows) (are-all rows c.args.table.few).each

pub invariant_of-result : goal.invariant_of-result
invariant_of-result c = are-all c.args.table.rows.items c.args.table.few
