use Rattle.strm_system.specs.Hosts.{AreOf, Passes}
use Rattle.strm_system.proofs.hosts.Host.claim.Given as goal

abbrev pub invariant-loop-system : goal.invariant-loop-system
invariant-loop-system g l = AreOf l.self l.opener × Passes l.self l.fn.opener l.system l.opener
