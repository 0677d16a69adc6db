use Rattle.strm_raw.specs.Raw.{linked}
use Rattle.strm_raw.proofs.tails.hang.Given as goal

abbrev pub ghost-note : goal.ghost-note
ghost-note a = linked (record { at = a._message }) a._first
