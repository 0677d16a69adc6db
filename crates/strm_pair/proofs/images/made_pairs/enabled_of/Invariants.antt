use Rattle.std.proofs.Common.{◌≡◌, take}
use Rattle.strm_pair.proofs.images.made_pairs.enabled_of.Given as goal

abbrev pub invariant-loop-name : goal.invariant-loop-name
invariant-loop-name l = record { so_far : l.enabled ≡ take l.name-index l.names }
