-- Forgetting the origins of cells commutes with puts in a pair, with deliveries there, and with flushes of a stream.
use Rattle.strm_laws.proofs.Prelude.{ℕ, suc, ◌≡◌, ◌-◌, Bool, true, false, cond, List, [], ◌∷◌, length, map, refl, sym, ap, ◌∙◌, length-map, ◌==◌}
use Rattle.strm_laws.proofs.Prelude.{◌&&◌, not, nat_le, slice_index_or, Option, None, Some, map-set}
use Rattle.strm_laws.specs.Prelude.{FlushQueues, Band, MODULES, HOPS, Place, QueueName, Side, Master, Slave, Way, Up, Down, Note, Spot, with_made}
use Rattle.strm_laws.specs.Prelude.{AreCells, Cells, plain, Acted, Comes, Fate, Goes, Took, driver_put, is_flush, asked_of, flush_bytes}
use Rattle.strm_laws.specs.Prelude.{flush_message, is_bare_flush, head_put, Message, has_parts, map_message, put_among, is_closed, is_open, other}
use Rattle.strm_laws.specs.Prelude.{PutsAgree, map_acted, map_carried, map_fate, map_took, Queue, map_queue}
use Rattle.strm_types.specs.declared.names.Place.TheVariants as places
use Rattle.strm_laws.specs.Behaviours.{Behaviour}
use Rattle.strm_laws.specs.Earlier.{driver_place, modules_on, places_of}
use Rattle.strm_laws.specs.Puts.{booked, delivered, earlier_at, flushed_on, made_above, module_acted, noted, passed_up, put_at_driver, put_at_head, put_at_module, put_behind, put_below, put_in}
use Rattle.strm_laws.specs.Stacked.{Standing, map_module, module_puts}
use Rattle.strm_laws.specs.State.{State, Stream, book, stream, with_book, with_stream, with_driver_queue, map_state, map_stream}
use Rattle.strm_laws.proofs.DeliveryForgets.{carried-agrees}
use Rattle.strm_laws.proofs.EmptiedForgets.{stream-forgets}
use Rattle.strm_laws.proofs.Earlier.{before_at-forgets, modules_on-forgets, places-forget}
use Rattle.strm_laws.proofs.Forgetting.{cells-forget, kind-forgets}
use Rattle.strm_laws.proofs.ModulePuts.{among-forgets}
use Rattle.strm_laws.proofs.Noted.{noted-same}
use Rattle.strm_laws.proofs.PutForgets.{driver_put-forgets, flush-forgets, head_put-forgets, parts-forget}

-- a pair whose driver of a side has had a message, with these queues enabled
abbrev driver_took : {E : Type 0} → Side → Acted E (Queue E) → List QueueName → State E → Took E (State E)
driver_took side t names s = record { state = record (with_stream side (with_driver_queue t.state (stream side s)) s) { enabled = names }; sent = t.sent; gone = t.gone }

module _ {C D : Type 0} (f : C → D) where
  abbrev image : Took C (State C) → Took D (State D)
  image t = map_took f (map_state f) t

  either-agrees : (b : Bool) (one another : Took C (State C)) (one' another' : Took D (State D)) → one' ≡ image one → another' ≡ image another → cond b one' another' ≡ image (cond b one another)
  either-agrees true one another one' another' first second = first
  either-agrees false one another one' another' first second = second

  driver_took-forgets : (side : Side) (t : Acted C (Queue C)) (names : List QueueName) (s : State C) → driver_took side (map_acted f (map_queue f) t) names (map_state f s) ≡ image (driver_took side t names s)
  driver_took-forgets Master t names s = refl
  driver_took-forgets Slave t names s = refl

  -- what is noted of a place
  pub notes-forget : (side : Side) (place : Option Place) (at : ℕ) (notes : List Note) (names : List QueueName) (s : State C)
      → noted side place (earlier_at side at (map_state f s)) notes names ≡ noted side place (earlier_at side at s) notes names
  notes-forget side place at notes names s = noted-same side place _ _ (λ way. before_at-forgets f side way at s) notes names

  pub head-forgets : (side : Side) (here : Spot) (m : Message C) (s : State C) → put_at_head side here (map_message f m) (map_state f s) ≡ image (put_at_head side here m s)
  head-forgets side here m s =
      let t = stream side s in
      let put = head_put here m t.head in
      rw (stream-forgets f side s, head_put-forgets f here m t.head, cells-forget f m, notes-forget side (Some places.Head) 0 put.notes s.enabled s, ← map-set (map_stream f) side (record t { head = put.state }) s.ends)
      (either-agrees (is_open t.opened) _ _ _ _ refl refl)

  -- the books
  booked-same : (told : List (Fate C)) (s : State C) → booked (map (map_fate f) told) (map_state f s) ≡ map_state f (booked told s)
  booked-same [] s = refl
  booked-same (Goes dir rule cells ∷ told) s = booked-same told s
  booked-same (Comes dir cells ∷ told) s =
      rw (length-map cells f) (booked-same told (with_book dir (with_made (length cells) (book dir s)) s))

  -- modules that have acted
  pub acted-same : (here : Spot) (t : Acted C (List (Standing C))) (s : State C) → module_acted here (map_acted f (map (map_module f)) t) (map_state f s) ≡ map_took f (map_state f) (module_acted here t s)
  acted-same here t s =
      let on = stream here.side s in
      let u = (module_acted here (record t { gone = [] }) s).state in
      let place = slice_index_or (places_of on.modules) (here.at - 1) None in
      rw (stream-forgets f here.side s, places-forget f on.modules, notes-forget here.side place here.at t.notes s.enabled s, ← booked-same t.gone u, map-set (map_stream f) here.side (record on { modules = t.state }) s.ends) refl

  driver-forgets : (side : Side) (here : Spot) (m : Message C) (s : State C) → put_at_driver side here (map_message f m) (map_state f s) ≡ image (put_at_driver side here m s)
  driver-forgets side here m s = over side
    where
      puts : {E : Type 0} → Side → Bool → ℕ → ℕ → Message E → Queue E → Acted E (Queue E)
      puts side opened bottom at m q = driver_put side (record { is_open = opened; bottom = bottom; ended = is_closed s.ends.master.opened }) (record here { at = at }) m q

      took : Side → ℕ → Acted D (Queue D) → Took D (State D)
      took side at t = driver_took side t (noted side (Some places.Driver) (earlier_at side at (map_state f s)) t.notes s.enabled) (map_state f s)

      from : (side : Side) (opened : Bool) (q : Queue C) → let there = driver_place side (map_state f s) in let at = driver_place side s in
          let t = puts side opened (modules_on (other side) s) at m q in
          took side there (puts side opened (modules_on (other side) (map_state f s)) there (map_message f m) (map_queue f q))
          ≡ image (driver_took side t (noted side (Some places.Driver) (earlier_at side at s) t.notes s.enabled) s)
      from side opened q =
          let at = driver_place side s in
          let bottom = modules_on (other side) s in
          let t = puts side opened bottom at m q in
          rw (modules_on-forgets f side s, modules_on-forgets f (other side) s, driver_put-forgets f side (record { is_open = opened; bottom = bottom; ended = is_closed s.ends.master.opened }) (record here { at = at }) m q, notes-forget side (Some places.Driver) at t.notes s.enabled s)
          (driver_took-forgets side t (noted side (Some places.Driver) (earlier_at side at s) t.notes s.enabled) s)

      over : (side : Side) → put_at_driver side here (map_message f m) (map_state f s) ≡ image (put_at_driver side here m s)
      over Master = from Master (is_open s.ends.slave.opened) s.ends.master.driver.queue
      over Slave = from Slave (is_open s.ends.master.opened) s.ends.slave.driver.queue

  behind-forgets : (way : Way) (here : Spot) (m : Message C) (s : State C) → put_behind way here (map_message f m) (map_state f s) ≡ image (put_behind way here m s)
  behind-forgets Down here m s = driver-forgets here.side here m s
  behind-forgets Up here m s =
      ap (λ kind. at (is_flush kind && not (has_parts (map_message f m)))) (kind-forgets f m)
      ∙ ap (λ parts. at (is_flush m.kind && not parts)) (parts-forget f m)
      ∙ either-agrees (is_bare_flush m && here.at == suc MODULES) (put_at_driver here.side here m s) (passed_up here m s)
      (put_at_driver here.side here (map_message f m) (map_state f s)) (passed_up here (map_message f m) (map_state f s)) (driver-forgets here.side here m s)
      (ap (λ n. record { state = map_state f s; sent = record { to = record here { at = n }; message = map_message f m } ∷ []; gone = [] }) (modules_on-forgets f here.side s))
    where
      at : Bool → Took D (State D)
      at bare = cond (bare && here.at == suc MODULES) (put_at_driver here.side here (map_message f m) (map_state f s)) (passed_up here (map_message f m) (map_state f s))

module _ {C : Type 0} (cells : Cells C) (are : AreCells cells) where
  abbrev f : C → ℕ
  f = cells.byte

  module-forgets : (K : Behaviour) (here : Spot) (m : Message C) (s : State C) → put_at_module K plain here (map_message f m) (map_state f s) ≡ map_took f (map_state f) (put_at_module K cells here m s)
  module-forgets K here m s =
      let i = here.at - 1 in
      let ps = (stream here.side s).modules in
      let made = made_above here.side s in
      ap (λ (t : Stream ℕ). module_acted here (put_among (module_puts K plain (made_above here.side (map_state f s))) i here (map_message f m) t.modules) (map_state f s)) (stream-forgets f here.side s)
      ∙ ap (λ t. module_acted here t (map_state f s)) (among-forgets K cells are made i here m ps)
      ∙ acted-same f here (put_among (module_puts K cells made) i here m ps) s

  below-forgets : (K : Behaviour) (way : Way) (here : Spot) (m : Message C) (s : State C) → put_below K plain way here (map_message f m) (map_state f s) ≡ map_took f (map_state f) (put_below K cells way here m s)
  below-forgets K way here m s =
      let at = put_at_module K plain here (map_message f m) (map_state f s) in
      let behind = put_behind way here (map_message f m) (map_state f s) in
      ap (λ n. cond (nat_le here.at n) at behind) (modules_on-forgets f here.side s)
      ∙ either-agrees f (nat_le here.at (modules_on here.side s)) (put_at_module K cells here m s) (put_behind way here m s) at behind (module-forgets K here m s) (behind-forgets f way here m s)

  pub puts-forget : (K : Behaviour) → PutsAgree f (map_state f) (put_in K cells) (put_in K plain)
  puts-forget K to m s =
      either-agrees f (to.at == 0) (put_at_head to.side to m s) (put_below K cells to.way to m s)
      (put_at_head to.side to (map_message f m) (map_state f s)) (put_below K plain to.way to (map_message f m) (map_state f s)) (head-forgets f to.side to m s) (below-forgets K to.way to m s)

  pub delivered-forgets : (K : Behaviour) (to : Spot) (m : Message C) (s : State C) → delivered K plain to (map_message f m) (map_state f s) ≡ map_carried f (map_state f) (delivered K cells to m s)
  delivered-forgets K to m s =
      carried-agrees f (map_state f) (put_in K cells) (put_in K plain) (puts-forget K) HOPS (record { to = to; message = m }) s

  pub flushed_on-forgets : (K : Behaviour) (band : Option Band) (side : Side) (what : FlushQueues) (s : State C) → flushed_on K plain band side what (map_state f s) ≡ map_carried f (map_state f) (flushed_on K cells band side what s)
  flushed_on-forgets K band side what s =
      let to : Spot = record { side = side; at = 1; way = Down } in
      let bytes = flush_bytes (asked_of what band) in
      ap (λ m. delivered K plain to m (map_state f s)) (sym (flush-forgets f bytes)) ∙ delivered-forgets K to (flush_message bytes) s
