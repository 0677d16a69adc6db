use Rattle.strm_blocks.specs.Blocks.{token}
use Rattle.strm_raw.proofs.Freeing.{Left, left_len}
use Rattle.strm_raw.proofs.store.RawStoreBlocks.free.Given as goal

abbrev pub invariant-loop-left : goal.invariant-loop-left
invariant-loop-left l = Left l.fn.self (token l.fn.message) l.left l.self

abbrev pub decreases-loop-left : goal.decreases-loop-left
decreases-loop-left l = left_len l.left l.self
