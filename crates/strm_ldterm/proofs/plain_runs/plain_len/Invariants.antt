use Rattle.std.proofs.Common.{◌≡◌, false, true, get_or, take}
use Rattle.std.specs.List.{AllByRecursion}
use Rattle.strm_ldterm.proofs.plain_runs.plain_len.Given as goal

abbrev pub invariant-loop-at : goal.invariant-loop-at
invariant-loop-at l = AllByRecursion (λ b. get_or l.odd b true ≡ false) (take l.at l.bytes)
