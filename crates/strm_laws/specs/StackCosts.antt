-- Which modules stand on the streams of a pair, and what each takes of a message that is put at it.
use Rattle.std.specs.Prelude.{ℕ, ◌≤◌, zero, suc, ◌+◌, Bool, if◌then◌else◌, false, List, map, slice_index_or}
use Rattle.strm_laws.specs.Prelude.{Both, ModuleName, Side, Spot, AllSides, get, map_both, Message, same_module, name_does}
use Rattle.strm_types.specs.Budgets.{own_at}
use Rattle.strm_laws.specs.Stacked.{Standing, module_name}
use Rattle.strm_laws.specs.State.{State}

-- the names of the modules of both streams, from the top
abbrev pub Stands : Type 0
Stands = Both (List ModuleName)

abbrev pub stands_on : Side → Stands → List ModuleName
stands_on side all = get side all

abbrev pub stands_of : {C : Type 0} → State C → Stands
stands_of s = map_both (λ t. map module_name t.modules) s.ends

-- whether a module of this name stands there, counted from the top, from 0
abbrev pub stands_at : ModuleName → List ModuleName → ℕ → Bool
stands_at name on i = slice_index_or (map (λ n. same_module n name) on) i false

-- at how many of the first places it stands
abbrev pub times_there : ModuleName → List ModuleName → ℕ → ℕ
times_there name on zero = 0
times_there name on (suc at) = (if stands_at name on at then 1 else 0) + times_there name on at

-- a module stands on a stream once at most
pub record EachOnce (on : List ModuleName) : Type 0 where
  pub once : (name : ModuleName) (at : ℕ) → times_there name on at ≤ 1

abbrev pub StandOnce : Stands → Type 0
StandOnce all = AllSides (λ side on. EachOnce on) all

-- what a module takes at most of a message that is put at it, by its table
abbrev pub module_takes : {C : Type 0} → Spot → Message C → Standing C → ℕ
module_takes here m p = own_at (name_does (module_name p)) here m
