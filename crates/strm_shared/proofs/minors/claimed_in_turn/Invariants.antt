use Rattle.std.proofs.Common.{◌≡◌}
use Rattle.strm_shared.proofs.minors.claimed_in_turn.Given as goal

abbrev pub invariant-loop-number : goal.invariant-loop-number
invariant-loop-number g l = (l.even.table ≡ l.minors.table) × (l.odd.table ≡ l.minors.table)
