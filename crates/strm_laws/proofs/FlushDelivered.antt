-- An M_FLUSH that goes down from the head of a side takes what the queues that it reaches say, where no module stands.
use Rattle.strm_laws.proofs.Prelude.{ℕ, suc, ◌≡◌, Bool, true, false, cond, List, [], ◌∷◌, ◌++◌, refl, ap, ◌∙◌, append-nil, nat_le, Option, None, Some}
use Rattle.strm_laws.proofs.Prelude.{set-all}
use Rattle.strm_laws.specs.Prelude.{FlushQueues, FlushAsked, Band, MODULES, Place, QueueName, Side, Master, Slave, Way, Up, Down, Flushed, EndClosed}
use Rattle.strm_laws.specs.Prelude.{Room, Spot, Cells, Acted, Carried, Fate, Goes, Parcel, Took, carried, in_turn, flush_across, flush_down, freed}
use Rattle.strm_laws.specs.Prelude.{own_flushed, reader_flush, Choice, of_data, queue_behind, writer_goes, asked_by, asked_of, flush_bytes}
use Rattle.strm_laws.specs.Prelude.{flush_message, read_flush, flush_up, cells_of, direction_at, enable_some, is_open, other, Queue}
use Rattle.std.proofs.Common.{append_assoc}
use Rattle.strm_types.specs.declared.events.FlushQueues.TheVariants.{Read, Write, Both}
use Rattle.strm_types.specs.declared.names.Place.TheVariants as places
use Rattle.strm_laws.specs.Behaviours.{Behaviour}
use Rattle.strm_laws.specs.Closes.{and_then, driver_behind, driver_emptied, head_behind, head_emptied}
use Rattle.strm_laws.specs.Earlier.{NoModules, driver_place, modules_on}
use Rattle.strm_laws.specs.FlushEffect.{none_gone, reached, write_flushed, read_flushed, flush_effect}
use Rattle.strm_laws.specs.Puts.{across_of, earlier_at, flushed_on, noted, put_at_module, put_in}
use Rattle.strm_laws.specs.State.{State, stream, with_stream, with_head_queue, with_driver_queue}
use Rattle.strm_laws.proofs.Earlier.{few-behind, none-on}

-- what the bytes of an M_FLUSH ask for is what they were made of
pub bytes-ask : (what : FlushQueues) (band : Option Band) → asked_by (flush_bytes (asked_of what band)) ≡ asked_of what band
bytes-ask Read None = refl
bytes-ask Write None = refl
bytes-ask Both None = refl
bytes-ask Read (Some band) = refl
bytes-ask Write (Some band) = refl
bytes-ask Both (Some band) = refl

reads-ask : (band : Option Band) → asked_by (read_flush band) ≡ asked_of Read band
reads-ask None = refl
reads-ask (Some band) = refl

-- the spots of a side's head, and of its driver on the way up and down
abbrev up_spot : Side → ℕ → Spot
up_spot side at = record { side = side; at = at; way = Up }

abbrev head_spot : Side → Spot
head_spot side = up_spot side 0

abbrev across_spot : Side → Spot
across_spot side = record { side = side; at = suc MODULES; way = Up }

abbrev down_spot : Side → Spot
down_spot side = record { side = side; at = 1; way = Down }

-- where a writer goes, the nearest earlier queue with service is enabled
room-noted : (side : Side) (place : Option Place) (earlier : Way → Option QueueName) (way : Way) (goes : Bool) (names : List QueueName) → noted side place earlier (cond goes (Room way ∷ []) []) names ≡ enable_some goes (earlier way) names
room-noted side place earlier way true names = refl
room-noted side place earlier way false names = refl

module _ {C : Type 0} (cells : Cells C) where
  abbrev flush_to : Spot → List ℕ → Parcel C
  flush_to to bytes = record { to = to; message = flush_message bytes }

  -- what carrying does with what a put took
  abbrev pub went_on : Behaviour → ℕ → Took C (State C) → Carried C (State C)
  went_on K hops t =
      let u = in_turn (carried (put_in K cells) hops) t.sent t.state in
      record { state = u.state; gone = t.gone ++ u.gone }

  pub carries : (K : Behaviour) (hops : ℕ) (p : Parcel C) (s : State C) → carried (put_in K cells) (suc hops) p s
      ≡ went_on K hops (put_in K cells p.to p.message s)
  unfolding carried
  carries K hops p s = refl

  turns-join : (carry : Parcel C → State C → Carried C (State C)) (ps qs : List (Parcel C)) (s : State C) → in_turn carry (ps ++ qs) s ≡ and_then (in_turn carry ps s) (in_turn carry qs)
  turns-join carry [] qs s = refl
  turns-join carry (p ∷ ps) qs s =
      let t = carry p s in
      let u = in_turn carry ps t.state in
      let v = in_turn carry qs u.state in
      rw (turns-join carry ps qs t.state, ← append_assoc t.gone u.gone v.gone) refl

  turns-one : (carry : Parcel C → State C → Carried C (State C)) (p : Parcel C) (s : State C) → in_turn carry (p ∷ []) s ≡ carry p s
  turns-one carry p s = ap (λ (gone : List (Fate C)). record { state = (carry p s).state; gone = gone }) (append-nil (carry p s).gone)

  -- at a head
  abbrev head_took : Side → FlushAsked → State C → Took C (State C)
  head_took side asked s =
      let above = stream side s in
      let t = flush_up (head_spot side) asked above.head in
      record {
        state = record (with_stream side (record above { head = t.state }) s) { enabled = noted side (Some places.Head) (earlier_at side 0 s) t.notes s.enabled };
        sent = t.sent;
        gone = t.gone;
      }

  head-takes : (K : Behaviour) (side : Side) (bytes : List ℕ) (s : State C) → is_open (stream side s).opened ≡ true → put_in K cells (head_spot side) (flush_message bytes) s ≡ head_took side (asked_by bytes) s
  head-takes K side bytes s is =
      let none : Took C (State C) = record { state = s; sent = []; gone = Goes (direction_at Up side) EndClosed (cells_of (flush_message bytes)) ∷ [] } in
      ap (λ (opened : Bool). cond opened (head_took side (asked_by bytes) s) none) is

  head-flushes : (band : Option Band) (side : Side) (s : State C) → head_took side (asked_of Read band) s ≡ record { state = head_behind (of_data band) side s; sent = []; gone = (head_emptied Flushed (of_data band) side s).gone }
  head-flushes band side s =
      let above = stream side s in
      let chosen = of_data band in
      ap (λ (names : List QueueName). record {
        state = record (with_stream side (with_head_queue (queue_behind chosen above.head.queue) above) s) { enabled = names };
        sent = [];
        gone = (head_emptied Flushed chosen side s).gone;
      }) (room-noted side (Some places.Head) (earlier_at side 0 s) Up (writer_goes chosen above.head.queue) s.enabled)

  head-carried : (K : Behaviour) (hops : ℕ) (band : Option Band) (side : Side) (s : State C) → is_open (stream side s).opened ≡ true
      → carried (put_in K cells) (suc hops) (flush_to (head_spot side) (read_flush band)) s ≡ head_emptied Flushed (of_data band) side s
  head-carried K hops band side s is =
      carries K hops (flush_to (head_spot side) (read_flush band)) s
      ∙ ap (λ (t : Took C (State C)). went_on K hops t) (head-takes K side (read_flush band) s is)
      ∙ ap (λ (asked : FlushAsked). went_on K hops (head_took side asked s)) (reads-ask band)
      ∙ ap (λ (t : Took C (State C)). went_on K hops t) (head-flushes band side s)

  -- what a driver sends up a stream
  reads-reach : (K : Behaviour) (hops : ℕ) (band : Option Band) (side : Side) (s : State C)
      → in_turn (carried (put_in K cells) (suc hops)) (reader_flush (is_open (stream side s).opened) (asked_of Read band) (head_spot side)) s ≡ reached (of_data band) side s
  reads-reach K hops band side s = at (is_open (stream side s).opened) refl
    where
      at : (opened : Bool) → is_open (stream side s).opened ≡ opened
          → in_turn (carried (put_in K cells) (suc hops)) (reader_flush opened (asked_of Read band) (head_spot side)) s ≡ cond opened (head_emptied Flushed (of_data band) side s) (none_gone s)
      at true is =
          turns-one (carried (put_in K cells) (suc hops)) (flush_to (head_spot side) (read_flush band)) s
          ∙ head-carried K hops band side s is
      at false is = refl

  -- at a driver
  abbrev pub driver_took : Side → Acted C (Queue C) → State C → Took C (State C)
  driver_took side t s = record {
    state = record (with_stream side (with_driver_queue t.state (stream side s)) s) { enabled = noted side (Some places.Driver) (earlier_at side (driver_place side s) s) t.notes s.enabled };
    sent = t.sent;
    gone = t.gone;
  }

  driver-flushes : (asked : FlushAsked) (side : Side) (ps : List (Parcel C)) (s : State C)
      → driver_took side (record (own_flushed side asked (stream side s).driver.queue) { sent = ps }) s
      ≡ record { state = driver_behind (of_data asked.band) side s; sent = ps; gone = (driver_emptied Flushed (of_data asked.band) side s).gone }
  driver-flushes asked side ps s =
      let below = stream side s in
      let chosen = of_data asked.band in
      ap (λ (names : List QueueName). record {
        state = record (with_stream side (with_driver_queue (queue_behind chosen below.driver.queue) below) s) { enabled = names };
        sent = ps;
        gone = (driver_emptied Flushed chosen side s).gone;
      }) (room-noted side (Some places.Driver) (earlier_at side (driver_place side s) s) Down (writer_goes chosen below.driver.queue) s.enabled)

  driver-frees : (side : Side) (ps : List (Parcel C)) (s : State C) → driver_took side (record (freed (stream side s).driver.queue) { sent = ps }) s ≡ record { state = s; sent = ps; gone = [] }
  driver-frees Master ps s = refl
  driver-frees Slave ps s = refl

  stays-opened : (chosen : Choice) (side : Side) (s : State C) → is_open (stream (other side) s).opened ≡ is_open (stream (other side) (driver_behind chosen side s)).opened
  stays-opened chosen Master s = refl
  stays-opened chosen Slave s = refl

  -- and no module comes to stand there
  driver-none : (chosen : Choice) (side : Side) (s : State C) → NoModules s → NoModules (driver_behind chosen side s)
  driver-none chosen side s none =
      let t = stream side s in
      set-all (λ of u. u.modules ≡ []) side (with_driver_queue (queue_behind chosen t.driver.queue) t) s.ends (none side) none

  head-none : (chosen : Choice) (side : Side) (s : State C) → NoModules s → NoModules (head_behind chosen side s)
  head-none chosen side s none =
      let t = stream side s in
      set-all (λ of u. u.modules ≡ []) side (with_head_queue (queue_behind chosen t.head.queue) t) s.ends (none side) none

  reached-none : (chosen : Choice) (side : Side) (s : State C) → NoModules s → NoModules (reached chosen side s).state
  reached-none chosen side s none = at (is_open (stream side s).opened)
    where
      at : (opened : Bool) → NoModules (cond opened (head_emptied Flushed chosen side s) (none_gone s)).state
      at true = head-none chosen side s none
      at false = none

  -- an M_FLUSH that came across, at the driver of a side
  abbrev across_took : Side → FlushAsked → State C → Took C (State C)
  across_took side asked s = driver_took side (flush_across side (across_of side s) asked (stream side s).driver.queue) s

  across-takes : (K : Behaviour) (side : Side) (bytes : List ℕ) (s : State C) → put_in K cells (across_spot side) (flush_message bytes) s ≡ across_took side (asked_by bytes) s
  across-takes K side bytes s = ap (λ (stands : Bool). cond stands (put_at_module K cells (across_spot side) (flush_message bytes) s) (across_took side (asked_by bytes) s)) (few-behind side s)

  -- what a driver sends up behind its own queue's flush
  up-behind : (K : Behaviour) (hops : ℕ) (band : Option Band) (side : Side) (s : State C) → NoModules s
      → let behind = driver_behind (of_data band) side s in
      in_turn (carried (put_in K cells) (suc hops)) (reader_flush (is_open (stream (other side) s).opened) (asked_of Read band) (up_spot (other side) (modules_on (other side) s))) behind
      ≡ reached (of_data band) (other side) behind
  up-behind K hops band side s none =
      let behind = driver_behind (of_data band) side s in
      rw (none-on (other side) s none, stays-opened (of_data band) side s) (reads-reach K hops band (other side) behind)

  across-carried : (K : Behaviour) (hops : ℕ) (band : Option Band) (side : Side) (s : State C) → NoModules s
      → carried (put_in K cells) (suc (suc hops)) (flush_to (across_spot side) (read_flush band)) s ≡ write_flushed (of_data band) side s
  across-carried K hops band side s none =
      let up = reader_flush (is_open (stream (other side) s).opened) (asked_of Read band) (up_spot (other side) (modules_on (other side) s)) in
      let first = driver_emptied Flushed (of_data band) side s in
      carries K (suc hops) (flush_to (across_spot side) (read_flush band)) s
      ∙ ap (λ (t : Took C (State C)). went_on K (suc hops) t) (across-takes K side (read_flush band) s)
      ∙ ap (λ (asked : FlushAsked). went_on K (suc hops) (across_took side asked s)) (reads-ask band)
      ∙ ap (λ (t : Took C (State C)). went_on K (suc hops) t) (driver-flushes (asked_of Read band) side up s)
      ∙ ap (λ (u : Carried C (State C)). record { state = u.state; gone = first.gone ++ u.gone }) (up-behind K hops band side s none)

  -- the driver across, and then the side's own readers
  reads-carried : (K : Behaviour) (hops : ℕ) (band : Option Band) (side : Side) (s : State C) → NoModules s
      → in_turn (carried (put_in K cells) (suc (suc hops))) (flush_to (across_spot (other side)) (read_flush band) ∷ []) s ≡ read_flushed (of_data band) side s
  reads-carried K hops band side s none =
      turns-one (carried (put_in K cells) (suc (suc hops))) (flush_to (across_spot (other side)) (read_flush band)) s
      ∙ across-carried K hops band (other side) s none
      ∙ back side
    where
      back : (side : Side) → write_flushed (of_data band) (other side) s ≡ read_flushed (of_data band) side s
      back Master = refl
      back Slave = refl

  -- an M_FLUSH that comes down, at the driver of a side
  abbrev down_took : Side → FlushAsked → State C → Took C (State C)
  down_took side asked s = driver_took side (flush_down side (across_of side s) asked (stream side s).driver.queue) s

  down-takes : (K : Behaviour) (side : Side) (bytes : List ℕ) (s : State C) → NoModules s → put_in K cells (down_spot side) (flush_message bytes) s ≡ down_took side (asked_by bytes) s
  down-takes K side bytes s none = ap (λ (count : ℕ). cond (nat_le 1 count) (put_at_module K cells (down_spot side) (flush_message bytes) s) (down_took side (asked_by bytes) s)) (none-on side s none)

  went-down : (K : Behaviour) (hops : ℕ) (band : Option Band) (side : Side) (what : FlushQueues) (s : State C) → NoModules s
      → went_on K (suc (suc hops)) (down_took side (asked_of what band) s) ≡ flush_effect (of_data band) side what s
  went-down K hops band side Read s none =
      let across = flush_to (across_spot (other side)) (read_flush band) ∷ [] in
      ap (λ (t : Took C (State C)). went_on K (suc (suc hops)) t) (driver-frees side across s)
      ∙ reads-carried K hops band side s none
  went-down K hops band side Write s none =
      let up = reader_flush (is_open (stream (other side) s).opened) (asked_of Read band) (up_spot (other side) (modules_on (other side) s)) in
      let first = driver_emptied Flushed (of_data band) side s in
      ap (λ (t : Took C (State C)). went_on K (suc (suc hops)) t) (driver-flushes (asked_of Write band) side (up ++ []) s)
      ∙ ap (λ (ps : List (Parcel C)). went_on K (suc (suc hops)) (record { state = first.state; sent = ps; gone = first.gone })) (append-nil up)
      ∙ ap (λ (u : Carried C (State C)). record { state = u.state; gone = first.gone ++ u.gone }) (up-behind K (suc hops) band side s none)
  went-down K hops band side Both s none =
      let carry = carried (put_in K cells) (suc (suc hops)) in
      let up = reader_flush (is_open (stream (other side) s).opened) (asked_of Read band) (up_spot (other side) (modules_on (other side) s)) in
      let across = flush_to (across_spot (other side)) (read_flush band) ∷ [] in
      let first = driver_emptied Flushed (of_data band) side s in
      let second = reached (of_data band) (other side) first.state in
      let behind : Carried C (State C) → Carried C (State C) = λ u. record { state = u.state; gone = first.gone ++ u.gone } in
      ap (λ (t : Took C (State C)). went_on K (suc (suc hops)) t) (driver-flushes (asked_of Both band) side (up ++ across) s)
      ∙ ap behind (turns-join carry up across first.state)
      ∙ ap (λ (u : Carried C (State C)). behind (and_then u (in_turn carry across))) (up-behind K (suc hops) band side s none)
      ∙ ap (λ (u : Carried C (State C)). behind (record { state = u.state; gone = second.gone ++ u.gone })) (reads-carried K hops band side second.state (reached-none (of_data band) (other side) first.state (driver-none (of_data band) side s none)))

  pub flush-carried : (K : Behaviour) (hops : ℕ) (band : Option Band) (side : Side) (what : FlushQueues) (s : State C) → NoModules s
      → carried (put_in K cells) (suc (suc (suc hops))) (flush_to (down_spot side) (flush_bytes (asked_of what band))) s ≡ flush_effect (of_data band) side what s
  flush-carried K hops band side what s none =
      carries K (suc (suc hops)) (flush_to (down_spot side) (flush_bytes (asked_of what band))) s
      ∙ ap (λ (t : Took C (State C)). went_on K (suc (suc hops)) t) (down-takes K side (flush_bytes (asked_of what band)) s none)
      ∙ ap (λ (asked : FlushAsked). went_on K (suc (suc hops)) (down_took side asked s)) (bytes-ask what band)
      ∙ went-down K hops band side what s none

  pub flush-delivered : (K : Behaviour) (band : Option Band) (side : Side) (what : FlushQueues) (s : State C) → NoModules s → flushed_on K cells band side what s ≡ flush_effect (of_data band) side what s
  flush-delivered K band side what s none = flush-carried K 13 band side what s none
