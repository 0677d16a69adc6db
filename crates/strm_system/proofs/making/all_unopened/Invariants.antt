use Rattle.std.proofs.Common.{◌≡◌, length}
use Rattle.std.specs.Prelude.{All, map, replicate}
use Rattle.strm_laws.specs.Pair.{new_pair}
use Rattle.strm_system.proofs.making.all_unopened.Given as goal

abbrev pub invariant-loop-made : goal.invariant-loop-made
invariant-loop-made g l = (length l.all.items ≡ l.made) × All (λ p. g.P.Object.pair_of p ≡ new_pair l.fn.sizes) l.all.items × (map (λ p. (g.P.Object.pair_of p).limits) l.all.items ≡ replicate l.made l.fn.sizes)
