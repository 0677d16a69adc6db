use Rattle.std.proofs.Common.{refl}
use Rattle.strm_queue.proofs.flow.Flow.kept.Goals as goal

pub returns-then-data_alone : goal.returns-then-data_alone
returns-then-data_alone c = rw c.if-data_alone.true refl

pub returns-else-data_alone : goal.returns-else-data_alone
returns-else-data_alone c = rw c.if-data_alone.false c.count.ensures
