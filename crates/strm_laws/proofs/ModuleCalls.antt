-- A call of the service procedure of one of a stream's modules loses no cell and sends to a place next to its own. Behind it the turn goes
-- on, or nothing of one is under way at any module.
use Rattle.strm_laws.proofs.Prelude.{ℕ, zero, suc, ◌≡◌, ◌+◌, ◌-◌, Bool, true, false, List, [], ◌∷◌, map, arith, Some, slice_index_or, sum_by-cons}
use Rattle.strm_laws.specs.Prelude.{Spot, Dir, Cells, Acted, Message, act_among, put_among}
use Rattle.strm_laws.specs.Behaviours.{Behaviour}
use Rattle.strm_laws.specs.LdtermWeights.{IgnoresMapping}
use Rattle.strm_laws.specs.Places.{weight_gone, weight_made, weight_sent}
use Rattle.strm_laws.specs.Stacked.{Standing, IsAtRest, module_puts, module_serves, module_weight, modules_weight}
use Rattle.strm_laws.proofs.ModulesIdle.{AllIdle, among-idle}
use Rattle.strm_laws.proofs.Lawful.{IsReadyAt}
use Rattle.strm_laws.proofs.LawfulKinds.{calls-lawfully, puts-lawfully}

-- the module at a place is so, counted from the top, from 0, and at all others nothing of a turn is under way
abbrev pub OneIs : {C : Type 0} → (Standing C → Type 0) → ℕ → List (Standing C) → Type 0
OneIs Is i [] = Unit {0}
OneIs Is zero (l ∷ ls) = Is l × AllIdle ls
OneIs Is (suc i) (l ∷ ls) = IsAtRest l × OneIs Is i ls

module _ {C : Type 0} where
  pub one-of-idle : (Is : Standing C → Type 0) → ((q : Standing C) → IsAtRest q → Is q) → (i : ℕ) (ps : List (Standing C)) → AllIdle ps → OneIs Is i ps
  one-of-idle Is from i [] idle = tt
  one-of-idle Is from zero (l ∷ ls) idle = (from l idle.0, idle.1)
  one-of-idle Is from (suc i) (l ∷ ls) idle = (idle.0, one-of-idle Is from i ls idle.1)

  module _ (K : Behaviour) (cells : Cells C) (made : ℕ) where
    pub one-puts : (Is : Standing C → Type 0) → ((here : Spot) (m : Message C) (l : Standing C) → Is l → Is (module_puts K cells made here m l).state)
        → (i j : ℕ) (here : Spot) (m : Message C) (ps : List (Standing C)) → OneIs Is i ps → OneIs Is i (put_among (module_puts K cells made) j here m ps).state
    one-puts Is stays i j here m [] one = tt
    one-puts Is stays zero zero here m (l ∷ ls) one = (stays here m l one.0, one.1)
    one-puts Is stays zero (suc j) here m (l ∷ ls) one = (one.0, among-idle K cells made j here m ls one.1)
    one-puts Is stays (suc i) zero here m (l ∷ ls) one = ((puts-lawfully K l cells made here m).rests one.0, one.1)
    one-puts Is stays (suc i) (suc j) here m (l ∷ ls) one = (one.0, one-puts Is stays i j here m ls one.1)

-- a call of the one at a place
module _ {C : Type 0} (K : Behaviour) (cells : Cells C) (here : Spot) (made : ℕ) (again : Bool) (left : ℕ) where
  abbrev Ready : Standing C → Type 0
  Ready l = IsReadyAt again here.way left l

  abbrev acts : Standing C → Acted C (Standing C)
  acts l = (module_serves K cells here made again (Some left) l).acted

  abbrev treated : Standing C → ℕ
  treated l = (module_serves K cells here made again (Some left) l).bytes

  abbrev asks : Standing C → Bool
  asks l = (module_serves K cells here made again (Some left) l).again

  pub among-goes : (i : ℕ) (ps : List (Standing C)) → OneIs Ready i ps → slice_index_or (map asks ps) i false ≡ true
      → OneIs (λ l. IsReadyAt true here.way (left - slice_index_or (map treated ps) i 0) l) i (act_among acts i ps).state
  among-goes i [] one works = tt
  among-goes zero (l ∷ ls) one works = ((calls-lawfully K l cells here made again).goes left one.0 works, one.1)
  among-goes (suc i) (l ∷ ls) one works = (one.0, among-goes i ls one.1 works)

  pub among-rests : (i : ℕ) (ps : List (Standing C)) → OneIs Ready i ps → slice_index_or (map asks ps) i false ≡ false → AllIdle (act_among acts i ps).state
  among-rests i [] one over = tt
  among-rests zero (l ∷ ls) one over = ((calls-lawfully K l cells here made again).ends left one.0 over, one.1)
  among-rests (suc i) (l ∷ ls) one over = (one.0, among-rests i ls one.1 over)

  module _ (p : Dir → C → Bool) (ignores : IgnoresMapping cells p) where
    pub among-keeps : (i : ℕ) (ps : List (Standing C)) → OneIs Ready i ps → let t = act_among acts i ps in
        modules_weight p here.side t.state + (weight_sent p t.sent + weight_gone p t.gone) ≡ modules_weight p here.side ps + weight_made p t.gone
    among-keeps i [] one = omega arith
    among-keeps zero (l ∷ ls) one =
        let t = acts l in
        omega (
          arith,
          (calls-lawfully K l cells here made again).once p ignores left one.0,
          sum_by-cons (module_weight p here.side) l ls,
          sum_by-cons (module_weight p here.side) t.state ls,
        )
    among-keeps (suc i) (l ∷ ls) one =
        let t = act_among acts i ls in
        omega (arith, among-keeps i ls one.1, sum_by-cons (module_weight p here.side) l ls, sum_by-cons (module_weight p here.side) l t.state)
