use Rattle.std.proofs.Common.{refl}
use Rattle.strm_queue.proofs.queue.Queue.see_empty.Goals as goal

pub returns-then-is_empty-clause-empty : goal.returns-then-is_empty-clause-empty
returns-then-is_empty-clause-empty g c = λ none. refl
