use Rattle.std.proofs.Common.{◌≡◌, ◌-◌, ◌++◌, length, take, replicate, ap, ◌∙◌, arith}
use Rattle.std.specs.Vec.{vec_len}
use Rattle.strm_queue.specs.Rows.{all_rows, no_row}
use Rattle.strm_queue.proofs.AllRows.{all-reached}
use Rattle.strm_queue.proofs.table.Table.reach.Goals as goal

pub returns-clause-rows : goal.returns-clause-rows
returns-clause-rows c =
    let rows = c.args.self.now.rows in
    let count = c.args.count in
    let long : vec_len rows ≡ length rows.items = omega arith in
    ap all_rows c.in-Ok.ensures.items
    ∙ ap (λ n. all_rows (take count rows.items ++ replicate (count - n) no_row)) long
    ∙ all-reached rows.items count c.requires.more c.requires.few
