use Rattle.strm_queue.specs.Rows.{all_rows}
use Rattle.strm_queue.proofs.RowFlows.{row-empty, row-marked, rows-long}
use Rattle.strm_queue.proofs.banded.Banded.filled.Goals as goal

pub returns-clause-none : goal.returns-clause-none
returns-clause-none c = λ at lt none. row-empty c.self.inside.common (all_rows c.self.inside.table.rows.items) c.self.invariant c.args.self.now c.self.view_is at lt none

pub returns-clause-marked : goal.returns-clause-marked
returns-clause-marked c = λ at lt. row-marked c.self.inside.common (all_rows c.self.inside.table.rows.items) c.self.invariant c.args.self.now c.self.view_is at lt

pub returns-clause-each : goal.returns-clause-each
returns-clause-each c = rows-long c.self.inside.common (all_rows c.self.inside.table.rows.items) c.self.invariant c.args.self.now c.self.view_is
