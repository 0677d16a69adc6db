-- A delivery keeps all cells.
use Rattle.strm_laws.proofs.Prelude.{ℕ, zero, suc, ◌≡◌, ◌<◌, ◌+◌, Bool, List, [], ◌∷◌, ◌++◌, refl, subst, ◌∙◌, arith, min, sum_by, PutHolds}
use Rattle.strm_laws.proofs.Prelude.{carried-holds}
use Rattle.strm_laws.specs.Prelude.{Message, Spot, Dir, Costed, Costs, Within, beyond, budget, cost_of, Parcel, Fate, Took, Carried, in_turn, carried}
use Rattle.strm_laws.specs.Prelude.{At}
use Rattle.std.specs.List.{AllByRecursion}
use Rattle.strm_types.specs.Shapes.{at_of}
use Rattle.strm_types.proofs.CostsOf.{cost-more}
use Rattle.strm_laws.specs.Places.{weight_sent, weight_gone, weight_made, PutKeeps, CarryKeeps, KeepsFrom}

module _ {C : Type 0} (p : Dir → C → Bool) where
  pub gone-append : (xs ys : List (Fate C)) → weight_gone p (xs ++ ys) ≡ weight_gone p xs + weight_gone p ys
  gone-append [] ys = omega arith
  gone-append (x ∷ xs) ys = let ih = gone-append xs ys in omega arith

  pub made-append : (xs ys : List (Fate C)) → weight_made p (xs ++ ys) ≡ weight_made p xs + weight_made p ys
  made-append [] ys = omega arith
  made-append (x ∷ xs) ys = let ih = made-append xs ys in omega arith

module _ {C S : Type 0} (p : Dir → C → Bool) (weigh : S → ℕ) where
  pub in_turn-keeps : (carry : Parcel C → S → Carried C S) (ps : List (Parcel C)) → AllByRecursion (CarryKeeps p weigh carry) ps → (s : S) →
      weigh (in_turn carry ps s).state + weight_gone p (in_turn carry ps s).gone ≡ weigh s + (weight_sent p ps + weight_made p (in_turn carry ps s).gone)
  in_turn-keeps carry [] all s = omega arith
  in_turn-keeps carry (q ∷ qs) all s =
      let t = carry q s in
      let first = all.0 s in
      let rest = in_turn-keeps carry qs all.1 t.state in
      let both = gone-append p t.gone (in_turn carry qs t.state).gone in
      let made = made-append p t.gone (in_turn carry qs t.state).gone in
      omega arith

  -- a budget that isn't beyond what may be asked is a sum
  under : (n : ℕ) → min beyond n < beyond → n ≡ min beyond n
  under n low = omega (arith, low)

  module _ (costs : S → At → Costs) (put : Spot → Message C → S → Took C S) (keeps : PutKeeps p weigh put) (costed : Costed costs put) (table : At → Costs) where
    abbrev Stands : S → Type 0
    Stands s = costs s ≡ table

    stays : PutHolds Stands put
    stays to m s is = costed.stays to m s ∙ is

    turns-keep : (hops : ℕ) → ((q : Parcel C) (s : S) → Stands s → budget table hops (at_of q) < beyond → KeepsFrom p weigh (carried put hops) q s)
        → (ps : List (Parcel C)) (s : S) → Stands s → cost_of (budget table hops) ps < beyond
        → weigh (in_turn (carried put hops) ps s).state + weight_gone p (in_turn (carried put hops) ps s).gone ≡ weigh s + (weight_sent p ps + weight_made p (in_turn (carried put hops) ps s).gone)
    turns-keep hops each [] s is low = omega arith
    turns-keep hops each (q ∷ qs) s is low =
        let all = cost-more (budget table hops) q qs in
        let t = carried put hops q s in
        let u = in_turn (carried put hops) qs t.state in
        let first = each q s is (omega (arith, low, all)) in
        let rest = turns-keep hops each qs t.state (carried-holds Stands put stays hops q s is) (omega (arith, low, all)) in
        omega (arith, first, rest, gone-append p t.gone u.gone, made-append p t.gone u.gone)

    budget-keeps : (hops : ℕ) (q : Parcel C) (s : S) → Stands s → budget table hops (at_of q) < beyond → KeepsFrom p weigh (carried put hops) q s
    unfolding carried budget
    budget-keeps zero q s is low = absurd (omega (arith, low))
    budget-keeps (suc hops) q s is low =
        let t = put q.to q.message s in
        let d = table (at_of q) in
        let u = in_turn (carried put hops) t.sent t.state in
        let all = under (d.own + sum_by (budget table hops) d.emits) low in
        let within = subst (λ (c : At → Costs). Within t.sent (c (at_of q)).emits) is (costed.within q.to q.message s) in
        let rest = turns-keep hops (budget-keeps hops) t.sent t.state (stays q.to q.message s is) (omega (arith, low, all, within (budget table hops))) in
        omega (arith, keeps q.to q.message s, rest, gone-append p t.gone u.gone, made-append p t.gone u.gone)

  pub carried-keeps : (costs : S → At → Costs) (put : Spot → Message C → S → Took C S) → PutKeeps p weigh put → Costed costs put → (hops : ℕ) (q : Parcel C) (s : S) → budget (costs s) hops (at_of q) < beyond → KeepsFrom p weigh (carried put hops) q s
  carried-keeps costs put keeps costed hops q s low = budget-keeps costs put keeps costed (costs s) hops q s refl low
