use Rattle.strm_raw.specs.Raw.{empty_roster}
use Rattle.strm_raw.proofs.raw.RawStore.new.Given as goal

abbrev pub ghost-note : goal.ghost-note
ghost-note a = λ _. empty_roster (record { at = a._message }) (record { at = a._datum })
