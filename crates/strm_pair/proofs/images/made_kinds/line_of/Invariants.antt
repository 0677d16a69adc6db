use Rattle.std.proofs.Common.{◌≡◌, take}
use Rattle.strm_pair.proofs.images.made_kinds.line_of.Given as goal

abbrev pub invariant-loop-at : goal.invariant-loop-at
invariant-loop-at l = record { line : l.line ≡ take l.at l.bytes }
