use Rattle.strm_laws.proofs.FlushDelivered.{flush-delivered}
use Rattle.strm_laws.proofs.flush_laws.flush_takes_from_heads_and_drivers.Goals as goal

pub returns : goal.returns
returns g c = λ cells band side what s known none. flush-delivered cells g.K.Behaves.does band side what s known none
