-- How many blocks the tables say that a put in a pair takes at most, at each place.
use Rattle.strm_laws.proofs.Prelude.{ℕ, zero, suc, ◌≡◌, ◌<◌, ◌≤◌, ◌-◌, Bool, true, false, cond, List, [], ◌∷◌, map, refl, sym, ap, ◌∙◌, arith, ◌==◌}
use Rattle.strm_laws.proofs.Prelude.{nat_le, slice_index_or, nat_tests}
use Rattle.strm_laws.specs.Prelude.{MODULES, ModuleName, Spot, Does, Message, at_place, Shape, shape_of, head_does}
use Rattle.strm_types.proofs.PcktWithin.{makes-own}
use Rattle.strm_laws.specs.Earlier.{modules_on}
use Rattle.strm_laws.specs.SideCosts.{SideAt, SideCosts, behind_costs, costs, does_among, front_on, fronts, place_costs, side_does}
use Rattle.strm_laws.specs.Spares.{module_packs}
use Rattle.strm_laws.specs.StackCosts.{module_takes, stands_of}
use Rattle.strm_laws.specs.Stacked.{Standing, module_name}
use Rattle.strm_laws.specs.State.{State, stream}
use Rattle.strm_laws.proofs.PutsWithin.{among-front, count-on, names-on}

module _ {C : Type 0} (here : Spot) (m : Message C) where
  among-own : (i : ℕ) (ps : List (Standing C)) → slice_index_or (map (module_takes here m) ps) i 0 ≡ (does_among i (map module_name ps) here.way (shape_of m)).own
  among-own i [] = refl
  among-own zero (p ∷ ps) = refl
  among-own (suc i) (p ∷ ps) = among-own i ps

  among-makes : (i : ℕ) (ps : List (Standing C)) → slice_index_or (map (module_packs here m) ps) i 0 ≤ slice_index_or (map (module_takes here m) ps) i 0
  among-makes i [] = omega arith
  among-makes zero (p ∷ ps) = makes-own (module_name p) here.way (shape_of m)
  among-makes (suc i) (p ∷ ps) = among-makes i ps

module _ {C : Type 0} (to : Spot) (shape : Shape) (s : State C) where
  abbrev at : SideAt
  at = record { place = to.at; way = to.way; shape = shape }

  abbrev pub own : ℕ
  own = (costs (stands_of s) (record { to = to; shape = shape })).own

  abbrev on : List ModuleName
  on = fronts (map module_name (stream to.side s).modules)

  abbrev count : ℕ
  count = modules_on to.side s

  abbrev by_place : Bool → Bool → SideCosts
  by_place top stands = cond top (side_does 0 (head_does shape)) (cond stands (side_does to.at (does_among (to.at - 1) on to.way shape)) (behind_costs count to.way to.at shape))

  own-is : own ≡ (by_place (to.at == 0) (nat_le to.at count)).own
  own-is =
      ap (λ (n : ℕ). (place_costs (front_on to.side (stands_of s)) n at).own) (count-on to.side s)
      ∙ ap (λ (names : List ModuleName). (place_costs (fronts names) count at).own) (names-on to.side s)

  -- at the head, at a module and behind them
  pub head-own : (to.at == 0) ≡ true → own ≡ (head_does shape).own
  head-own top = own-is ∙ ap (λ (b : Bool). (by_place b (nat_le to.at count)).own) top

  module _ (below : (to.at == 0) ≡ false) where
    pub behind-own : nat_le to.at count ≡ false → own ≡ (behind_costs count to.way to.at shape).own
    behind-own past = own-is ∙ ap (λ (b : Bool). (by_place b (nat_le to.at count)).own) below ∙ ap (λ (b : Bool). (by_place false b).own) past

    pub stack-own : nat_le to.at count ≡ true → own ≡ (does_among (to.at - 1) (map module_name (stream to.side s).modules) to.way shape).own
    stack-own stands =
        let some : 0 < to.at = grind (arith, nat_tests) in
        let low : to.at ≤ count = grind (arith, nat_tests) in
        own-is
        ∙ ap (λ (b : Bool). (by_place b (nat_le to.at count)).own) below
        ∙ ap (λ (b : Bool). (by_place false b).own) stands
        ∙ ap (λ (d : Does). d.own) (among-front MODULES (to.at - 1) (map module_name (stream to.side s).modules) to.way shape (omega (arith, some, low)))

-- a module takes what its table says, and makes no more packets
module _ {C : Type 0} (to : Spot) (m : Message C) (s : State C) (below : (to.at == 0) ≡ false) (stands : nat_le to.at (modules_on to.side s) ≡ true) where
  pub place-own : at_place (module_takes to m) 0 to.at (stream to.side s).modules ≡ own to (shape_of m) s
  place-own = among-own to m (to.at - 1) (stream to.side s).modules ∙ sym (stack-own to (shape_of m) s below stands)

  pub place-makes : at_place (module_packs to m) 0 to.at (stream to.side s).modules ≤ own to (shape_of m) s
  place-makes = omega (arith, among-makes to m (to.at - 1) (stream to.side s).modules, place-own)
