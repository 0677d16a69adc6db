-- How many blocks of each kind a delivery takes at most, and that it ends, by one recursion over tables: what a put takes itself, and what it sends on
-- (STREAMS Programming Guide, "Put Procedures").
use Rattle.std.specs.Prelude.{ℕ, zero, suc, ◌≡◌, ◌+◌, ◌≤◌, min, List, [], ◌∷◌, map, sum_by}
use Rattle.strm_types.specs.declared.names.Way.{Way}
use Rattle.strm_types.specs.declared.names.Way.TheVariants.{Up, Down}
use Rattle.strm_types.specs.declared.spots.Spot.{Spot}
use Rattle.strm_types.specs.Deliver.{Parcel, Took, toward}
use Rattle.strm_types.specs.Message.{Message}
use Rattle.strm_types.specs.Shapes.{At, Shape, Held, Asking, Acking, FlushR, FlushW, FlushRW, FlushMixed, Packed, at_of, shape_of}

-- What a put at a module does at most: how many blocks of each kind it takes, how often it makes as many bytes as a packet has at most, and the ways and
-- shapes of what it sends on.
pub record Does : Type 0 where
  pub own : ℕ
  pub makes : ℕ
  pub emits : List (Way × Shape)

-- the same by the way and the shape of what is put
abbrev pub Table : Type 0
Table = Way → Shape → Does

-- what a put takes by a table
abbrev pub own_at : {C : Type 0} → Table → Spot → Message C → ℕ
own_at table here m = (table here.way (shape_of m)).own

-- What a put at a spot does at most: how many blocks of each kind it takes, and what it sends on.
pub record Costs : Type 0 where
  pub own : ℕ
  pub emits : List At

-- what goes on from a module's place, by its table
abbrev pub next_at : Spot → Way × Shape → At
next_at here r = record { to = toward r.0 here; shape = r.1 }

abbrev pub emits_at : Spot → Does → List At
emits_at here d = map (next_at here) d.emits

-- what messages on their way cost, by what each costs
unfoldable pub cost_of : {C : Type 0} → (At → ℕ) → List (Parcel C) → ℕ
cost_of cost [] = 0
cost_of cost (p ∷ ps) = cost (at_of p) + cost_of cost ps

-- Whatever each may cost, what was sent costs no more than what a table has.
abbrev pub Within : {C : Type 0} → List (Parcel C) → List At → Type 0
Within sent emits = (cost : At → ℕ) → cost_of cost sent ≤ sum_by cost emits

-- A put sends no more than it may, and no put changes what puts may send.
pub record Costed {C S : Type 0} (costs : S → At → Costs) (put : Spot → Message C → S → Took C S) : Type 0 where
  pub within : (to : Spot) (m : Message C) (s : S) → Within (put to m s).sent (costs s (record { to = to; shape = shape_of m })).emits
  pub stays : (to : Spot) (m : Message C) (s : S) → costs (put to m s).state ≡ costs s

-- what no call asks: so many hops away nothing may be
abbrev pub beyond : ℕ
beyond = 1000

-- How many blocks of each kind a delivery takes at most that is handed on at most so many times. Where it would be handed on more often, that is beyond
-- what any call asks: a delivery with less ends, and keeps within it.
unfoldable pub budget : (At → Costs) → ℕ → At → ℕ
budget costs zero a = beyond
budget costs (suc hops) a = let d = costs a in min beyond (d.own + sum_by (budget costs hops) d.emits)

-- How many blocks a message takes at most on the streams of a pair where each module stands on a side once at most, from any place.
abbrev pub most_on : Way → Shape → ℕ
most_on Up Held = 1
most_on Up Packed = 1
most_on Up Asking = 3
most_on Up Acking = 4
most_on Up FlushR = 2
most_on Up FlushW = 6
most_on Up FlushRW = 6
most_on Up FlushMixed = 6
most_on Down Asking = 8
most_on Down FlushR = 4
most_on Down FlushW = 4
most_on Down FlushRW = 5
most_on way _ = 0

abbrev pub most : At → ℕ
most a = most_on a.to.way a.shape

abbrev pub most_of : {C : Type 0} → Spot → Message C → ℕ
most_of to m = most (record { to = to; shape = shape_of m })
