use Rattle.std.proofs.Common.{◌≡◌, take}
use Rattle.strm_vectors.specs.Scripts.{so_far}
use Rattle.strm_vectors.proofs.scripts.take_field.Given as goal

abbrev pub invariant-loop-byte : goal.invariant-loop-byte
invariant-loop-byte l = so_far l.script.items l.behind ≡ take l.byte-index l.byte-items
