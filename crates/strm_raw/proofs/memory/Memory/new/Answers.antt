use Rattle.strm_raw.proofs.Made.{none-linked}
use Rattle.strm_raw.proofs.memory.Memory.new.Goals as goal

pub invariant_of-result : goal.invariant_of-result
invariant_of-result c = none-linked _ _ c.in_ok-msgs.ensures.items c.in_ok-datas.ensures.items
