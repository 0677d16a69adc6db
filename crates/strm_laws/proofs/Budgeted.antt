-- A delivery from any spot of a pair ends, whatever modules stand there, and takes few blocks where each stands on a side once.
use Rattle.strm_laws.proofs.Prelude.{ℕ, ◌≡◌, ◌<◌, ◌≤◌, true, false, List, [], ◌∷◌, length, refl, arith, false≢true}
use Rattle.strm_laws.specs.Prelude.{HOPS, MODULES, beyond, budget, At}
use Rattle.strm_types.specs.Budgets.{most}
use Rattle.strm_laws.specs.SideCosts.{all_stacks, costs, side_budget, stack_fits}
use Rattle.strm_laws.specs.StackCosts.{StandOnce, Stands, stands_on}
use Rattle.strm_laws.proofs.StacksFit.{budget-most, fronts-once}

any-fit : (ns : List ℕ) → length ns ≡ MODULES → all_stacks ns (stack_fits false) ≡ true
unfolding side_budget
any-fit (a ∷ b ∷ c ∷ []) is = refl
any-fit [] is = absurd (omega (arith, is))
any-fit (a ∷ []) is = absurd (omega (arith, is))
any-fit (a ∷ b ∷ []) is = absurd (omega (arith, is))
any-fit (a ∷ b ∷ c ∷ d ∷ ns) is = absurd (omega (arith, is))

once-fit : (ns : List ℕ) → length ns ≡ MODULES → all_stacks ns (stack_fits true) ≡ true
unfolding side_budget
once-fit (a ∷ b ∷ c ∷ []) is = refl
once-fit [] is = absurd (omega (arith, is))
once-fit (a ∷ []) is = absurd (omega (arith, is))
once-fit (a ∷ b ∷ []) is = absurd (omega (arith, is))
once-fit (a ∷ b ∷ c ∷ d ∷ ns) is = absurd (omega (arith, is))

pub ends : (all : Stands) (a : At) → budget (costs all) HOPS a < beyond
ends all a = omega (arith, budget-most all false any-fit (λ side is. absurd (false≢true is)) a)

pub keeps-most : (all : Stands) → StandOnce all → (a : At) → budget (costs all) HOPS a ≤ most a
keeps-most all once a = budget-most all true once-fit (λ side is. fronts-once (stands_on side all) (once side)) a
