-- A write on a side's stream, as modules see it: its chunks go down from the head, one after the other (write(2), streamio(7I); STREAMS
-- Programming Guide, "Flow Control").
use Rattle.std.specs.Prelude.{ℕ, ◌+◌, if◌then◌else◌, List, [], ◌∷◌, ◌++◌, length, map, Bool, not}
use Rattle.strm_laws.specs.Prelude.{Side, Down, Spot, Cells, Fate, data_message, map_fate, chunk_count, chunks_of}
use Rattle.strm_laws.specs.Behaviours.{Behaviour}
use Rattle.strm_laws.specs.Puts.{delivered}
use Rattle.strm_laws.specs.State.{State, map_state}
use Rattle.strm_laws.specs.Past.{has_room_past}

-- the place below a side's head
abbrev pub below_head : Side → Spot
below_head side = record { side = side; at = 1; way = Down }

-- what a write has sent: how many bytes it took, the state behind it, and what has gone on the way
pub record Wrote (C : Type 0) : Type 0 where
  pub taken : ℕ
  pub state : State C
  pub gone : List (Fate C)

module _ {C : Type 0} where
  -- the first queue below a side's head has no room for a band
  abbrev pub is_full_below : ℕ → Side → State C → Bool
  is_full_below band side s = not (has_room_past side Down 0 band s)

  -- Each chunk in turn goes down as an ordinary message, while band 0 of the first queue below isn't full.
  abbrev pub chunks_sent : Behaviour → Cells C → Side → List (List C) → State C → Wrote C
  chunks_sent K cells side [] s = record { taken = 0; state = s; gone = [] }
  chunks_sent K cells side (chunk ∷ chunks) s =
      if is_full_below 0 side s then record { taken = 0; state = s; gone = [] }
      else (let t = delivered K cells (below_head side) (data_message chunk) s in
      let more = chunks_sent K cells side chunks t.state in
      record { taken = length chunk + more.taken; state = more.state; gone = t.gone ++ more.gone })

  -- a write of these cells
  abbrev pub cells_sent : Behaviour → Cells C → Side → List C → State C → Wrote C
  cells_sent K cells side xs s = chunks_sent K cells side (chunks_of (chunk_count (length xs)) xs) s

-- the same of other cells
abbrev pub map_wrote : {C D : Type 0} → (C → D) → Wrote C → Wrote D
map_wrote f t = record { taken = t.taken; state = map_state f t.state; gone = map (map_fate f) t.gone }
