use Rattle.strm_raw.specs.Lists.{seated}
use Rattle.strm_raw.proofs.raw.RawStore.begin.Given as goal

abbrev pub ghost-note : goal.ghost-note
ghost-note a = seated a._first a._second (record { at = a._message })
