use Rattle.std.proofs.Common.{◌≡◌, true, take}
use Rattle.std.specs.List.{AllByRecursion}
use Rattle.strm_ldterm.specs.Posting.{is_printed}
use Rattle.strm_ldterm.proofs.output_runs.printed_len.Given as goal

abbrev pub invariant-loop-at : goal.invariant-loop-at
invariant-loop-at l = AllByRecursion (λ b. is_printed l.termios b ≡ true) (take l.at l.bytes)
