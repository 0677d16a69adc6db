use Rattle.std.proofs.Common.{◌≡◌, take}
use Rattle.strm_pair.proofs.images.heads.signals_of.Given as goal

abbrev pub invariant-loop-number : goal.invariant-loop-number
invariant-loop-number l = record { so_far : l.signals ≡ take l.number-index l.numbers }
