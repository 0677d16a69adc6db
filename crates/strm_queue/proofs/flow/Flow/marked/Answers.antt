use Rattle.std.proofs.Common.{refl}
use Rattle.strm_queue.proofs.flow.Flow.marked.Goals as goal

pub returns : goal.returns
returns c = rw c.count.ensures refl
