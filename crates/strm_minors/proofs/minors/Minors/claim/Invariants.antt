use Rattle.std.proofs.Common.{◌≡◌}
use Rattle.strm_minors.specs.Openers.{past}
use Rattle.strm_minors.proofs.minors.Minors.claim.Given as goal

abbrev pub invariant-loop-number : goal.invariant-loop-number
invariant-loop-number l = l.opener ≡ past l.number l.fn.opener
