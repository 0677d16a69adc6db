use Rattle.std.proofs.Common.{◌≡◌, ◌<◌, length, ap, ◌∙◌, arith}
use Rattle.std.specs.Prelude.{slice_set}
use Rattle.strm_queue.specs.Rows.{all_rows}
use Rattle.strm_queue.proofs.AllRows.{all-set}
use Rattle.strm_queue.proofs.table.Table.write.Goals as goal
use Rattle.strm_queue.proofs.table.Table.write.Goals.{then-len-at, else-len-at}

pub returns : goal.returns
returns c =
    let rows = c.if-len-at.self.rows.items in
    let within : c.args.at < length rows = elim c.if-len-at.branch [
      | then-len-at w ↦ omega (arith, ap (λ t. length t.rows.items) w.self-is, w.reach.ensures.count)
      | else-len-at w ↦ omega (arith, ap (λ t. length t.rows.items) w.self-is, w.if-len-at)
    ] in
    let same : all_rows rows ≡ all_rows c.args.self.now.rows.items = elim c.if-len-at.branch [
      | then-len-at w ↦ ap (λ t. all_rows t.rows.items) w.self-is ∙ w.reach.ensures.rows
      | else-len-at w ↦ ap (λ t. all_rows t.rows.items) w.self-is
    ] in
    all-set rows c.args.at c.args.row within ∙ ap (λ all. slice_set all c.args.at c.args.row) same
