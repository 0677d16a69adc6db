use Rattle.strm_raw.specs.Raw.{duplicated}
use Rattle.strm_raw.proofs.store.RawStoreBlocks.dup.Given as goal

abbrev pub ghost-note : goal.ghost-note
ghost-note a = duplicated
