use Rattle.std.proofs.Common.{refl}
use Rattle.strm_types.proofs.events.map_part.Goals as goal

pub returns-in-Some : goal.returns-in-Some
returns-in-Some g c = rw c.in-Some.is record { shown = _; shows = refl; says = record { met = c.f.ensures } }
