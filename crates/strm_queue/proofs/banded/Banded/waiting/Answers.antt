use Rattle.strm_queue.specs.Rows.{all_rows}
use Rattle.strm_queue.proofs.RowFlows.{row-waits, rows-long}
use Rattle.strm_queue.proofs.banded.Banded.waiting.Goals as goal

pub returns-clause-waits : goal.returns-clause-waits
returns-clause-waits c = λ at lt. row-waits c.self.inside.common (all_rows c.self.inside.table.rows.items) c.self.invariant c.args.self.now c.self.view_is at lt

pub returns-clause-each : goal.returns-clause-each
returns-clause-each c = rows-long c.self.inside.common (all_rows c.self.inside.table.rows.items) c.self.invariant c.args.self.now c.self.view_is
