use Rattle.std.proofs.Common.{refl}
use Rattle.strm_pair.proofs.streams.Streams.unmet.Goals as goal

pub returns : goal.returns
returns c = λ s.
    rw (c.or_else-4.ensures, c.or_else-3.ensures, c.or_else-2.ensures, c.or_else.ensures, c.unless.ensures, c.is_reached.ensures s, c.needed.ensures, c.is_master.ensures, c.needed-numbered.ensures, c.needed-booked.ensures, c.in_range.ensures s) refl
