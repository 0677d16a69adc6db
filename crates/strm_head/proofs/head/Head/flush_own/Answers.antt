-- What a flush leaves is of the kinds that stood there.
use Rattle.strm_types.specs.Flush.{is_data_kind}
use Rattle.strm_queue.proofs.Holding.{data-readable}
use Rattle.strm_head.proofs.head.Head.flush_own.Goals as goal

pub returns-clause-readable : goal.returns-clause-readable
returns-clause-readable g c = c.empty.ensures.keeps.holds is_data_kind data-readable c.requires.ready.readable
