-- Delivery: a message that is put at a spot changes what stands there and gives rise to others, and each is carried in
-- turn with all that it gives rise to, until queues or ends have taken it (STREAMS Programming Guide, "Put Procedures").
use Rattle.std.specs.Prelude.{ℕ, zero, suc, ◌+◌, ◌-◌, List, [], ◌∷◌, ◌++◌, length}
use Rattle.strm_types.specs.declared.names.Dir.{Dir}
use Rattle.strm_types.specs.declared.names.Way.{Way}
use Rattle.strm_types.specs.declared.names.Way.TheVariants.{Up, Down}
use Rattle.strm_types.specs.declared.rules.Rule.{Rule}
use Rattle.strm_types.specs.declared.rules.Fates.{Fates}
use Rattle.strm_types.specs.declared.spots.Spot.{Spot}
use Rattle.strm_types.specs.declared.spots.Note.{Note}
use Rattle.strm_types.specs.Message.{Message}
use Rattle.strm_types.specs.Rules.{told_more, made_more}

-- the next spot that way
abbrev pub toward : Way → Spot → Spot
toward Up here = record here { at = here.at - 1; way = Up }
toward Down here = record here { at = here.at + 1; way = Down }

-- a message on its way to a spot
pub record Parcel (C : Type 0) : Type 0 where
  pub to : Spot
  pub message : Message C

-- on its way to the next one
abbrev pub onward : {C : Type 0} → Way → Spot → Message C → Parcel C
onward way here m = record { to = toward way here; message = m }

-- what is told of cells of a direction: they have gone by a rule, or they were made on the way, as an echo is
pub data Fate (C : Type 0) : Type 0 where
  Goes : Dir → Rule → List C → Fate C
  Comes : Dir → List C → Fate C

-- what a put does: the state behind it, what is sent on, in order, and what has gone or was made
pub record Took (C S : Type 0) : Type 0 where
  pub state : S
  pub sent : List (Parcel C)
  pub gone : List (Fate C)

-- what a put at a module does: the module behind it, what becomes of its queues' places on the enabled list, in order, what
-- is sent on after that, in order, and what has gone or was made
pub record Acted (C S : Type 0) : Type 0 where
  pub state : S
  pub notes : List Note
  pub sent : List (Parcel C)
  pub gone : List (Fate C)

-- what carrying a message leads to: the state behind it, and what has gone or was made
pub record Carried (C S : Type 0) : Type 0 where
  pub state : S
  pub gone : List (Fate C)

-- one after the other, each by `carry`
abbrev pub in_turn : {C S : Type 0} → (Parcel C → S → Carried C S) → List (Parcel C) → S → Carried C S
in_turn carry [] s = record { state = s; gone = [] }
in_turn carry (p ∷ ps) s =
    let t = carry p s in
    let u = in_turn carry ps t.state in
    record { state = u.state; gone = t.gone ++ u.gone }

-- A message put at a spot, with all that it gives rise to. It is handed on at most so many times.
unfoldable pub carried : {C S : Type 0} → (Spot → Message C → S → Took C S) → ℕ → Parcel C → S → Carried C S
carried put zero p s = record { state = s; gone = [] }
carried put (suc hops) p s =
    let t = put p.to p.message s in
    let u = in_turn (carried put hops) t.sent t.state in
    record { state = u.state; gone = t.gone ++ u.gone }

-- the counts with cells that have gone, or were made
abbrev pub counted_with : {C : Type 0} → Fate C → Fates → Fates
counted_with (Goes direction rule cells) fates = told_more direction rule (length cells) fates
counted_with (Comes direction cells) fates = made_more direction (length cells) fates

-- the counts with all of these
abbrev pub tallied : {C : Type 0} → List (Fate C) → Fates → Fates
tallied [] fates = fates
tallied (f ∷ gone) fates = tallied gone (counted_with f fates)
