use Rattle.std.proofs.Common.{◌≡◌}
use Rattle.std.specs.Io.KnownBytes.{Keeps}
use Rattle.strm_script.proofs.sink.Sink.write.Given as goal

abbrev pub invariant-loop : goal.invariant-loop
invariant-loop g l = Keeps (g.W.Write.contents l.fn.self.writer) (g.W.Write.contents l.self.writer) × (l.self.error ≡ l.fn.self.error)
