-- What a message does that is put at a spot of a pair, and with all that it gives rise to (STREAMS Programming Guide, "Put
-- Procedures"): at a head, at a module, at a driver, or at a place where nothing stands. What a module makes on the way is booked.
use Rattle.std.specs.Prelude.{ℕ, suc, ◌≡◌, ◌-◌, ◌&&◌, ◌==◌, nat_le, if◌then◌else◌, List, [], ◌∷◌, length, slice_index_or, Option, None, Some}
use Rattle.strm_laws.specs.Prelude.{FlushQueues, Band, MODULES, HOPS, Dir, Side, Master, Place, QueueName, Way, Up, Down, EndClosed, Across, Note}
use Rattle.strm_laws.specs.Prelude.{Enable, Room, Spot, with_made, Cells, Acted, Carried, Comes, Fate, Goes, Took, carried, driver_put, asked_of}
use Rattle.strm_laws.specs.Prelude.{flush_bytes, flush_message, is_bare_flush, head_put, Message, cells_of, put_among, other, is_open, is_closed}
use Rattle.strm_laws.specs.Prelude.{direction_at, enable_found}
use Rattle.strm_types.specs.declared.names.Place.TheVariants as places
use Rattle.strm_laws.specs.Behaviours.{Behaviour}
use Rattle.strm_laws.specs.Earlier.{before_at, driver_place, modules_on, places_of, queue_named}
use Rattle.strm_laws.specs.Stacked.{Standing, module_puts}
use Rattle.strm_laws.specs.State.{State, book, stream, with_book, with_stream, with_driver_queue}

-- the enabled queues behind what a put says of the queues of a place, one after the other, with the nearest earlier queues of that place
abbrev pub noted : Side → Option Place → (Way → Option QueueName) → List Note → List QueueName → List QueueName
noted side place earlier [] names = names
noted side place earlier (Enable way ∷ notes) names = noted side place earlier notes (enable_found (queue_named side way place) names)
noted side place earlier (Room way ∷ notes) names = noted side place earlier notes (enable_found (earlier way) names)

module _ {C : Type 0} where
  -- the nearest earlier queues of a place
  abbrev pub earlier_at : Side → ℕ → State C → Way → Option QueueName
  earlier_at side at s way = before_at side way at s

  -- what the driver of a side is told of the other one
  abbrev pub across_of : Side → State C → Across
  across_of side s = record { is_open = is_open (stream (other side) s).opened; bottom = modules_on (other side) s; ended = is_closed (stream Master s).opened }

  -- a message that comes to the head of a side's stream; where that isn't open nobody reads, and its bytes go
  abbrev pub put_at_head : Side → Spot → Message C → State C → Took C (State C)
  put_at_head side here m s =
      let above = stream side s in
      let t = head_put here m above.head in
      if is_open above.opened then record {
        state = record (with_stream side (record above { head = t.state }) s) { enabled = noted side (Some places.Head) (earlier_at side 0 s) t.notes s.enabled };
        sent = t.sent;
        gone = t.gone;
      }
      else record { state = s; sent = []; gone = Goes (direction_at Up side) EndClosed (cells_of m) ∷ [] }

  -- the books with cells that are told as made
  abbrev pub booked : List (Fate C) → State C → State C
  booked [] s = s
  booked (Goes dir rule cells ∷ told) s = booked told s
  booked (Comes dir cells ∷ told) s = booked told (with_book dir (with_made (length cells) (book dir s)) s)

  -- a module that has acted: its queues are noted as enabled or with room, and what was made is booked
  abbrev pub module_acted : Spot → Acted C (List (Standing C)) → State C → Took C (State C)
  module_acted here t s =
      let on = stream here.side s in
      record {
        state = booked t.gone (record (with_stream here.side (record on { modules = t.state }) s) {
          enabled = noted here.side (slice_index_or (places_of on.modules) (here.at - 1) None) (earlier_at here.side here.at s) t.notes s.enabled;
        });
        sent = t.sent;
        gone = t.gone;
      }

  -- how many cells were made so far in the direction of what a side's stream carries up
  abbrev pub made_above : Side → State C → ℕ
  made_above side s = (book (direction_at Up side) s).made

  -- a message that comes to a module of a side's stream, by its place
  abbrev pub put_at_module : Behaviour → Cells C → Spot → Message C → State C → Took C (State C)
  put_at_module K cells here m s =
      module_acted here (put_among (module_puts K cells (made_above here.side s)) (here.at - 1) here m (stream here.side s).modules) s

  -- a message that comes to the driver of a side's stream, which is the first place below the modules
  abbrev pub put_at_driver : Side → Spot → Message C → State C → Took C (State C)
  put_at_driver side here m s =
      let below = stream side s in
      let at = driver_place side s in
      let t = driver_put side (across_of side s) (record here { at = at }) m below.driver.queue in
      record {
        state = record (with_stream side (with_driver_queue t.state below) s) { enabled = noted side (Some places.Driver) (earlier_at side at s) t.notes s.enabled };
        sent = t.sent;
        gone = t.gone;
      }

  -- a place where nothing stands: what comes up goes on to the lowest module, and where there is none to the head
  abbrev pub passed_up : Spot → Message C → State C → Took C (State C)
  passed_up here m s = record { state = s; sent = record { to = record here { at = modules_on here.side s }; message = m } ∷ []; gone = [] }

  -- below the modules: on the way up the driver's place takes an M_FLUSH that was sent across
  abbrev pub put_behind : Way → Spot → Message C → State C → Took C (State C)
  put_behind Down here m s = put_at_driver here.side here m s
  put_behind Up here m s = if is_bare_flush m && here.at == suc MODULES then put_at_driver here.side here m s else passed_up here m s

  -- below the head
  abbrev pub put_below : Behaviour → Cells C → Way → Spot → Message C → State C → Took C (State C)
  put_below K cells way here m s = if nat_le here.at (modules_on here.side s) then put_at_module K cells here m s else put_behind way here m s

  -- a message that is put at a spot
  abbrev pub put_in : Behaviour → Cells C → Spot → Message C → State C → Took C (State C)
  put_in K cells here m s = if here.at == 0 then put_at_head here.side here m s else put_below K cells here.way here m s

  -- a message that is put at a spot, with all that it gives rise to
  abbrev pub delivered : Behaviour → Cells C → Spot → Message C → State C → Carried C (State C)
  delivered K cells to m s = carried (put_in K cells) HOPS (record { to = to; message = m }) s

  -- a flush of a side's stream: an M_FLUSH goes down from its head
  abbrev pub flushed_on : Behaviour → Cells C → Option Band → Side → FlushQueues → State C → Carried C (State C)
  flushed_on K cells band side what s = delivered K cells (record { side = side; at = 1; way = Down }) (flush_message (flush_bytes (asked_of what band))) s

-- Two states with the same ends: which sides are open, the lock, the number of the next ioctl, and what was written. Cells may have been
-- made.
pub record SameButMade {C : Type 0} (s t : State C) : Type 0 where
  pub opened : (side : Side) → (stream side t).opened ≡ (stream side s).opened
  pub locked : t.locked ≡ s.locked
  pub next_ioctl : t.next_ioctl ≡ s.next_ioctl
  pub written : (dir : Dir) → (book dir t).written ≡ (book dir s).written
