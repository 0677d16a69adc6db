use Rattle.strm_queue.specs.Rows.{all_rows}
use Rattle.strm_queue.proofs.FreshRows.{all-fresh}
use Rattle.strm_queue.proofs.banded.Banded.renew.Goals as goal

pub returns : goal.returns
returns c =
    let e = c.new-self-inside.ensures in
    all-fresh c.new-self-inside.result c.args.high c.args.low e.high e.low e.marked e.filled e.waiting c.requires (all_rows c.self.inside.table.rows.items) c.self.invariant.each
