-- What turns lead to (STREAMS Programming Guide, "Service Procedures").
use Rattle.std.specs.Prelude.{List, [], map}
use Rattle.strm_laws.specs.Prelude.{Turn, Fate, map_fate}
use Rattle.strm_laws.specs.State.{State, map_state}

-- what a turn leads to, and what goes on the way by which rule
pub record TurnOutcome (C : Type 0) : Type 0 where
  pub turn : Turn
  pub state : State C
  pub gone : List (Fate C)

-- the same with a state of other cells
abbrev pub map_turn_outcome : {C D : Type 0} → (C → D) → TurnOutcome C → TurnOutcome D
map_turn_outcome f outcome = record { turn = outcome.turn; state = map_state f outcome.state; gone = map (map_fate f) outcome.gone }

module _ {C : Type 0} where
  -- a turn that moved nothing
  abbrev pub stayed_put : Turn → State C → TurnOutcome C
  stayed_put turn s = record { turn = turn; state = s; gone = [] }
