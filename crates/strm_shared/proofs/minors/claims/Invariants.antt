use Rattle.strm_minors.specs.Openers.{IsOf}
use Rattle.strm_shared.proofs.minors.claims.Given as goal

abbrev pub invariant-loop : goal.invariant-loop
invariant-loop l = IsOf l.minors l.opener
