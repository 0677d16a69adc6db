-- What there is once for each side of a pair.
use Rattle.std.specs.Borrow.{Lends, MutBor, Fml, RattleType}
use Rattle.strm_types.specs.declared.names.Side.{Side}
use Rattle.strm_types.specs.declared.names.Side.TheVariants.{Master, Slave}
use Rattle.strm_types.specs.declared.both.Both.{Both}
use Rattle.strm_types.specs.contracts.both.Both.{the_row}

module _ {A : Type 0} where
  -- the one of a side
  abbrev pub get : Side → Both A → A
  get Master b = b.master
  get Slave b = b.slave

  -- another one for a side
  abbrev pub set : Side → A → Both A → Both A
  set Master x b = record b { master = x }
  set Slave x b = record b { slave = x }

  -- one for both
  abbrev pub twice : A → Both A
  twice x = record { master = x; slave = x }

  -- what holds of each side's
  abbrev pub AllSides : (Side → A → Type 0) → Both A → Type 0
  AllSides P b = (side : Side) → P side (get side b)

abbrev pub map_both : {A B : Type 0} → (A → B) → Both A → Both B
map_both f b = record { master = f b.master; slave = f b.slave }

-- b ends with what is last behind r as the one of a side
abbrev pub LendsSide : (T : RattleType) → MutBor (Both T.Denot) → Side → MutBor T.Denot → Fml
LendsSide T b side r = Lends (the_row T) T b r (λ x. set side x b.now)
