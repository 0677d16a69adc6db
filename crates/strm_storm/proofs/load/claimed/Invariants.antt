use Rattle.strm_minors.specs.Openers.{IsOf}
use Rattle.strm_storm.proofs.load.claimed.Given as goal

abbrev pub invariant-loop : goal.invariant-loop
invariant-loop g l = IsOf l.system.minors l.opener
