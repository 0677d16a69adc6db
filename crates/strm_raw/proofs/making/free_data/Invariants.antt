use Rattle.strm_raw.specs.Raw.{given_data}
use Rattle.strm_raw.proofs.making.free_data.Given as goal

abbrev pub ghost-note : goal.ghost-note
ghost-note a = given_data (record { at = a._datum })
