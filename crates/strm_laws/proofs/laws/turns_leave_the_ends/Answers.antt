use Rattle.strm_laws.proofs.TurnKeeps.{turn-same}
use Rattle.strm_laws.proofs.laws.turns_leave_the_ends.Goals as goal

pub returns : goal.returns
returns g c = λ cells name turn s. turn-same s g.K.Behaves.does cells name turn
