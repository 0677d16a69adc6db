use Rattle.std.proofs.Common.{refl}
use Rattle.strm_types.proofs.events.Event.map.Goals as goal

pub returns-in-Write : goal.returns-in-Write
returns-in-Write g c = rw c.in-Write.is record { shown = _; shows = refl; says = record { met = c.f.ensures } }

pub returns-in-Ioctl : goal.returns-in-Ioctl
returns-in-Ioctl g c = rw c.in-Ioctl.is (refl, record { shown = _; shows = refl; says = record { met = c.f-in-Ioctl.ensures } })
