use Rattle.strm_raw.specs.Raw.{parted}
use Rattle.strm_raw.proofs.store.RawStoreBlocks.unlink.Given as goal

abbrev pub ghost-note : goal.ghost-note
ghost-note a = parted (record { at = a._message })
