use Rattle.std.proofs.Common.{◌≡◌, length}
use Rattle.std.specs.Prelude.{map}
use Rattle.strm_minors.specs.Openers.{opening}
use Rattle.strm_system.specs.Sizes.{laid}
use Rattle.strm_system.proofs.making.laid_out.Given as goal

abbrev pub invariant-loop-number : goal.invariant-loop-number
invariant-loop-number g l = (map (λ s. map (λ k. k.sizes) s.locks) l.systems.items ≡ laid l.fn.pairs l.fn.sizes l.number) × (l.openers.items ≡ map (λ s. opening s.minors) l.systems.items) × (length l.systems.items ≡ l.number)
