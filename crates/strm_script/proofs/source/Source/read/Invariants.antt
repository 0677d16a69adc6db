use Rattle.std.proofs.Common.{◌≡◌}
use Rattle.std.specs.Io.KnownBytes.{Keeps}
use Rattle.strm_script.proofs.source.Source.read.Given as goal

abbrev pub invariant-loop : goal.invariant-loop
invariant-loop g l = Keeps (g.R.Read.remaining l.fn.self.reader) (g.R.Read.remaining l.self.reader) × (l.self.error ≡ l.fn.self.error)
