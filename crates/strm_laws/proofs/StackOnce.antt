-- A module stands on a stream once at most: no other may be pushed.
use Rattle.strm_laws.proofs.Prelude.{ℕ, zero, suc, ◌≡◌, ◌≤◌, ◌+◌, Bool, true, false, cond, List, [], ◌∷◌, map, refl, ap, subst, arith, ◌||◌, not}
use Rattle.strm_laws.proofs.Prelude.{nat_lt, Some, and_parts, not-true}
use Rattle.strm_laws.specs.Prelude.{MODULES, ModuleName, stands, same_module}
use Rattle.std.specs.Prelude.{length}
use Rattle.strm_laws.specs.Pushes.{may_stand}
use Rattle.strm_laws.specs.StackCosts.{EachOnce, times_there}
use Rattle.strm_laws.specs.Stacked.{Standing, module_name}
use Rattle.strm_types.proofs.EnabledNames.{same_module-sound}

pub nothing-there : (name : ModuleName) (at : ℕ) → times_there name [] at ≡ 0
nothing-there name zero = refl
nothing-there name (suc at) = let rest = nothing-there name at in omega (arith, rest)

-- with one more on top
pub top-times : (name n : ModuleName) (ns : List ModuleName) (at : ℕ) → times_there name (n ∷ ns) (suc at) ≡ cond (same_module n name) 1 0 + times_there name ns at
top-times name n ns zero = refl
top-times name n ns (suc at) = let rest = top-times name n ns at in omega (arith, rest)

neither : (a b : Bool) → (a || b) ≡ false → (a ≡ false) × (b ≡ false)
neither false false is = (refl, refl)
neither true b is = absurd (cc)
neither false true is = absurd (cc)

module _ {C : Type 0} where
  none-times : (name : ModuleName) (ps : List (Standing C)) → stands module_name name ps ≡ false → (at : ℕ) → times_there name (map module_name ps) at ≡ 0
  none-times name [] none at = nothing-there name at
  none-times name (p ∷ ps) none zero = refl
  none-times name (p ∷ ps) none (suc at) =
      let apart = neither (same_module (module_name p) name) (stands module_name name ps) none in
      let rest = none-times name ps apart.1 at in
      let first = ap (λ b. cond {A = ℕ} b 1 0) apart.0 in
      omega (arith, top-times name (module_name p) (map module_name ps) at, rest, first)

  pub push-once : (p : Standing C) (ps : List (Standing C)) → may_stand (Some p) ps ≡ true → EachOnce (map module_name ps) → EachOnce (map module_name (p ∷ ps))
  push-once p ps may each = record { once = one }
    where
      alone : stands module_name (module_name p) ps ≡ false
      alone = not-true (stands module_name (module_name p) ps) (and_parts (nat_lt (length ps) MODULES) (not (stands module_name (module_name p) ps)) may).1

      on-top : (name : ModuleName) (at : ℕ) (same : Bool) → same_module (module_name p) name ≡ same → cond same 1 0 + times_there name (map module_name ps) at ≤ 1
      on-top name at true is =
          let none = subst (λ n. times_there n (map module_name ps) at ≡ 0) (same_module-sound (module_name p) name is) (none-times (module_name p) ps alone at) in
          omega (arith, none)
      on-top name at false is = let one = each.once name at in omega (arith, one)

      one : (name : ModuleName) (at : ℕ) → times_there name (map module_name (p ∷ ps)) at ≤ 1
      one name zero = omega arith
      one name (suc at) = let top = top-times name (module_name p) (map module_name ps) at in let few = on-top name at (same_module (module_name p) name) refl in omega (arith, top, few)

-- one is taken off
pub pop-once : (n : ModuleName) (ns : List ModuleName) → EachOnce (n ∷ ns) → EachOnce ns
pop-once n ns each = record { once = λ name at. (let all = each.once name (suc at) in let top = top-times name n ns at in omega (arith, all, top)) }

pub none-once : EachOnce []
none-once = record { once = λ name at. (let none = nothing-there name at in omega (arith, none)) }
