use Rattle.std.proofs.Common.{refl}
use Rattle.strm_queue.proofs.flow.Flow.lets_go.Goals as goal

pub returns-then-self : goal.returns-then-self
returns-then-self c = rw (c.count.ensures, c.if-self.true) refl

pub returns-else-self : goal.returns-else-self
returns-else-self c = rw c.if-self.false refl
