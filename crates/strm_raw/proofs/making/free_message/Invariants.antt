use Rattle.strm_raw.specs.Made.{given_message}
use Rattle.strm_raw.proofs.making.free_message.Given as goal

abbrev pub ghost-note : goal.ghost-note
ghost-note a = given_message (record { at = a._message })
