use Rattle.strm_raw.specs.Raw.{given}
use Rattle.strm_raw.proofs.raw.RawStore.free_one.Given as goal

abbrev pub ghost-note : goal.ghost-note
ghost-note a = given (record { at = a._message })
