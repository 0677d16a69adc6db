use Rattle.strm_raw.specs.Lists.{unseated}
use Rattle.strm_raw.proofs.raw.RawStore.take_end.Given as goal

abbrev pub ghost-note : goal.ghost-note
ghost-note a = unseated a._first (record { at = a._message })
