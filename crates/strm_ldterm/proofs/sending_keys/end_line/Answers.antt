-- The delimiter stands last.
use Rattle.strm_ldterm.proofs.sending_keys.end_line.Goals as goal

pub returns : goal.returns
returns g c = c.send_line.ensures
