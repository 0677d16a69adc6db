-- The queues of a stream's modules: whether a message may go on past a place, and a writer that waits there (canputnext(9F),
-- bcanput(9F); STREAMS Programming Guide, "Flow Control"). Places count from the head's, 0, over the modules from the top.
use Rattle.std.specs.Prelude.{ℕ, suc, ◌-◌, Bool, false, not, if◌then◌else◌, List, [], ◌∷◌, map, take, drop, slice_index_or, Option, None, Some}
use Rattle.strm_types.specs.declared.names.Way.{Way}
use Rattle.strm_types.specs.declared.names.Way.TheVariants.{Up, Down}
use Rattle.strm_types.specs.Queue.{Queue, is_full, with_writer_at}
use Rattle.strm_types.specs.Modules.{change_among}
use Rattle.strm_types.specs.Standings.{QueuePair, Standing, has_queues, queue_changed, way_queue}

-- the queue in which a writer of a band waits
abbrev pub with_waiting : {C : Type 0} → ℕ → Queue C → Queue C
with_waiting band q = record q { flows = with_writer_at band q.flows }

-- what is said of a place, where there is one; places of modules count from 1
abbrev pub at_place : {P A : Type 0} → (P → A) → A → ℕ → List P → A
at_place say otherwise place ps = slice_index_or (map say ps) (place - 1) otherwise

module _ {P C : Type 0} where
  -- whether a band of a module's queue is full
  abbrev pub full_at : Way → ℕ → Standing P C → Bool
  full_at way band x = full x.queues
    where
      full : Option (QueuePair C) → Bool
      full None = false
      full (Some pair) = is_full band (way_queue way pair)

  -- the first of these modules that has queues, where the first one's place is this
  abbrev pub first_place : ℕ → List (Standing P C) → Option ℕ
  first_place place [] = None
  first_place place (x ∷ xs) = if has_queues x then Some place else first_place (suc place) xs

  -- the last one, where so far it was this
  abbrev pub last_place : ℕ → Option ℕ → List (Standing P C) → Option ℕ
  last_place place last [] = last
  last_place place last (x ∷ xs) = last_place (suc place) (if has_queues x then Some place else last) xs

  -- the nearest module below a place, and above one, that has queues
  abbrev pub place_below : ℕ → List (Standing P C) → Option ℕ
  place_below at xs = first_place (suc at) (drop at xs)

  abbrev pub place_above : ℕ → List (Standing P C) → Option ℕ
  place_above at xs = last_place 1 None (take (at - 1) xs)

  -- the nearest one past a place, as messages of a way go, and the nearest one before it
  abbrev pub place_past : Way → ℕ → List (Standing P C) → Option ℕ
  place_past Down at xs = place_below at xs
  place_past Up at xs = place_above at xs

  abbrev pub place_before : Way → ℕ → List (Standing P C) → Option ℕ
  place_before Down at xs = place_above at xs
  place_before Up at xs = place_below at xs

  -- whether a band has room at a place, where there is one
  abbrev pub room_at : Way → ℕ → List (Standing P C) → Option ℕ → Option Bool
  room_at way band xs None = None
  room_at way band xs (Some place) = Some (not (at_place (full_at way band) false place xs))

  -- Whether a message of a band may go on past a place: the nearest queue there has to have room. None where no module
  -- there has one, so that what stands behind the modules is asked.
  abbrev pub can_pass : Way → ℕ → ℕ → List (Standing P C) → Option Bool
  can_pass way band at xs = room_at way band xs (place_past way at xs)

  -- a module at whose queue a writer of a band waits
  abbrev pub waits : Way → ℕ → Standing P C → Standing P C
  waits way band = queue_changed way (with_waiting band)

  -- the same at a place, where there is one
  abbrev pub waits_at : Way → ℕ → List (Standing P C) → Option ℕ → List (Standing P C)
  waits_at way band xs None = xs
  waits_at way band xs (Some place) = change_among (waits way band) (place - 1) xs

  -- a writer of a band waits at the nearest queue past a place
  abbrev pub waits_past : Way → ℕ → ℕ → List (Standing P C) → List (Standing P C)
  waits_past way band at xs = waits_at way band xs (place_past way at xs)
