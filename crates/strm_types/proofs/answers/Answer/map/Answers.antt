use Rattle.std.proofs.Common.{refl}
use Rattle.strm_types.proofs.answers.Answer.map.Goals as goal

pub returns-in-Bytes : goal.returns-in-Bytes
returns-in-Bytes g c = rw c.in-Bytes.is record { shown = _; shows = refl; says = record { met = c.f.ensures } }

pub returns-in-Signals : goal.returns-in-Signals
returns-in-Signals g c = rw c.in-Signals.is record { shown = _; shows = refl; says = record { met = c.f-in-Signals.ensures } }
