-- The modules of the side's stack are counted.
use Rattle.std.proofs.Common.{ℕ, length, ap, arith}
use Rattle.strm_laws.specs.State.{Stream}
use Rattle.strm_pair.proofs.streams.Streams.modules_on.Goals as goal

pub returns-clause-on : goal.returns-clause-on
returns-clause-on c = λ s. omega (arith, c.min.ensures, c.module_count.ensures s, ap (λ (t : Stream ℕ). length t.modules) (c.end.ensures.stream s))
