use Rattle.strm_raw.specs.Raw.{allocated}
use Rattle.strm_raw.proofs.raw.RawStore.alloc_free.Given as goal

abbrev pub ghost-note : goal.ghost-note
ghost-note a = allocated
