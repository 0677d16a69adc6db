use Rattle.std.proofs.Common.{ap, ◌∙◌}
use Rattle.std.specs.Prelude.{map}
use Rattle.strm_queue.specs.Flows.{marked_with}
use Rattle.strm_queue.specs.Rows.{all_rows}
use Rattle.strm_queue.proofs.RowFlows.{flows-each}
use Rattle.strm_queue.proofs.banded.Banded.mark.Goals as goal

pub returns : goal.returns
returns c =
    flows-each (marked_with c.args.high c.args.low) c.self.inside.common c.mark.new.self 0 (all_rows c.self.inside.table.rows.items) c.mark.ensures.each
    ∙ ap (map (marked_with c.args.high c.args.low)) c.self.view_is
