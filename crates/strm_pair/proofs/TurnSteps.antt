-- A turn of a driver, step by step.
use Rattle.strm_pair.proofs.Prelude.{ℕ, ◌≡◌, ◌≤◌, Bool, true, false, List, [], ◌∷◌, map, refl, sym, ap, ◌∙◌, arith, not, ◌&&◌, Option, None, Some}
use Rattle.strm_pair.proofs.Prelude.{MatchOption, same-spare, kind-is}
use Rattle.strm_pair.specs.Prelude.{Blocked, Idle, Side, Way, Up, most_of, shape_of, driver_place, AreIdle, Message, is_held, other, is_open}
use Rattle.strm_pair.specs.Prelude.{has_room_past, writer_waits, left_with, spare, State, Stream, stream, stayed_put, is_stopped_across, with_driver}
use Rattle.strm_pair.specs.Prelude.{moved_across, driver_serves, driver_turned, Block, StoreValue, block_at, list_at, token, PeekedFirst, Peek}
use Rattle.strm_pair.specs.Prelude.{message_of, messages_on, OnlyQueue, Behaviour}
use Rattle.strm_types.specs.Cells as cells
use Rattle.strm_types.proofs.CostsOf.{most-few}
use Rattle.strm_types.specs.Message.{band_of}
use Rattle.strm_types.specs.Queue as plain
use Rattle.strm_laws.specs.Turns.{held_back, turn_ended}
use Rattle.strm_laws.proofs.StepBooks.{driver-books, end-books, waits-books}
use Rattle.strm_blocks.specs.declared.in_hand.InHand.{InHand}
use Rattle.strm_queue.specs.declared.queue.Queue.{Queue}
use Rattle.strm_queue.specs.Stored.{NoneTaken, Dequeued}
use Rattle.strm_queue.proofs.Chains.{held-band, stopped-held}
use Rattle.strm_pair.specs.declared.ends.StreamEnd.{StreamEnd}
use Rattle.strm_pair.specs.declared.streams.Streams.{Streams}
use Rattle.strm_pair.specs.Framing.{rests}
use Rattle.strm_pair.specs.Pairs.{state_in, end_at, with_end, AreBeside, Stays, kept_by}
use Rattle.strm_pair.specs.Took.{TookFirst}
use Rattle.strm_pair.proofs.Sides.{driver-changed, driver-state, driver-is, stream-is}
use Rattle.strm_pair.proofs.Idle.{idle-with}
use Rattle.strm_pair.proofs.Peeked.{seen-before}

pub only-dequeued : (s t : StoreValue) (q q' : Queue) (i : ℕ) → Dequeued s t q q' i → OnlyQueue s t q q'
only-dequeued s t q q' i d = record { ready = d.ready; list = d.list; others = d.others }

took-first : (side : Side) (s t : StoreValue) (p : Streams) (q : Queue) (i : ℕ) → AreBeside s p → AreIdle (state_in s p) → Dequeued s t (end_at side p).driver q i → TookFirst side s t p (with_end side (record (end_at side p) { driver = q }) p) i
took-first side s t p q i beside idle d =
    let stays : Stays s t (kept_by p) = record { mblks = d.mblks; dblks = d.dblks; kept = λ j some. absurd (omega (arith, some, rests s p beside idle j)) } in
    let only = only-dequeued s t (end_at side p).driver q i d in
    let is = driver-is s p side in
    record {
      rest = messages_on t q.list;
      first = ap (λ (x : plain.Queue ℕ). x.messages) is ∙ d.first;
      state = driver-state s t p beside stays side q only
          ∙ ap (λ x. with_driver side x (state_in s p)) (d.queue ∙ ap (λ x. left_with (messages_on t q.list) x) (sym is));
      beside = driver-changed s t p beside stays side q only;
      hand = d.hand;
      chain = d.chain;
      mblks = d.mblks;
      dblks = d.dblks;
      frees = d.frees;
    }

-- nothing of a turn is under way where a message was taken off a driver's queue
pub taken-idle : (side : Side) (q : plain.Queue ℕ) (s : State ℕ) → AreIdle s → AreIdle (with_driver side q s)
taken-idle side q s idle = idle-with side _ s (idle side) idle

pub took : (side : Side) (s t : StoreValue) (p : Streams) (q : Queue) (result : Option InHand) → AreBeside s p → AreIdle (state_in s p)
    → MatchOption result (NoneTaken s t (end_at side p).driver q) (λ m. Dequeued s t (end_at side p).driver q (token m))
    → MatchOption result (messages_on s (end_at side p).driver.list ≡ []) (λ m. TookFirst side s t p (with_end side (record (end_at side p) { driver = q }) p) (token m))
took side s t p q None beside idle none = none.none
took side s t p q (Some m) beside idle d = took-first side s t p q (token m) beside idle d

abbrev first_message : List (Message ℕ) → Message ℕ → Message ℕ
first_message [] m = m
first_message (x ∷ q) m = x

-- what comes up from a driver takes eight blocks of each kind at most
pub up-few : (side : Side) (at : ℕ) (m : Message ℕ) → most_of (record { side = side; at = at; way = Up }) m ≤ 8
up-few side at m = most-few (record { to = record { side = side; at = at; way = Up }; shape = shape_of m })

-- the books stay where a message is taken off a driver's queue, where a turn ends, and where a writer waits
pub taken-spare : (side : Side) (q : plain.Queue ℕ) (s : State ℕ) → spare (with_driver side q s) ≡ spare s
taken-spare side q s = same-spare s (with_driver side q s) (driver-books cells.plain side q s)

pub ended-spare : (side : Side) (size : ℕ) (s : State ℕ) → spare (turn_ended side size s) ≡ spare s
ended-spare side size s = same-spare s (turn_ended side size s) (end-books cells.plain side size s)

pub waits-spare : (side : Side) (way : Way) (at band : ℕ) (s : State ℕ) → spare (writer_waits side way at band s) ≡ spare s
waits-spare side way at band s = same-spare s (writer_waits side way at band s) (waits-books side way at band s)

-- whether flow control stops a message by its band, as its first block tells
held-by : (chain : List Block) (stops : ℕ → Bool) (v : Bool) → is_held (block_at 0 chain).kind ≡ v → (v && stops (band_of (message_of chain))) ≡ (v && stops (block_at 0 chain).band)
held-by chain stops false is = refl
held-by chain stops true is = ap stops (held-band chain is)

stopped-by : (chain : List Block) (stops : ℕ → Bool) → (is_held (message_of chain).kind && stops (band_of (message_of chain))) ≡ (is_held (block_at 0 chain).kind && stops (block_at 0 chain).band)
stopped-by chain stops =
    let held : is_held (message_of chain).kind ≡ is_held (block_at 0 chain).kind = ap is_held (kind-is chain) in
    ap (λ v. v && stops (band_of (message_of chain))) held ∙ held-by chain stops (is_held (block_at 0 chain).kind) refl

-- what is seen of the first message tells whether it is stopped
module _ (s : StoreValue) (k : ℕ) (peek : Peek) (p : PeekedFirst s k peek) (stops : ℕ → Bool) where
  seen-stopped : (is_held peek.kind && stops peek.band.0) ≡ (is_held (message_of p.message).kind && stops (band_of (message_of p.message)))
  seen-stopped =
      ap (λ kind. is_held kind && stops peek.band.0) p.seen.kind ∙ ap (λ band. is_held (block_at 0 p.message).kind && stops band) p.seen.band ∙ sym (stopped-by p.message stops)

  seen-held : (is_held peek.kind && stops peek.band.0) ≡ true → is_held (block_at 0 p.message).kind ≡ true
  seen-held is = ap is_held (sym p.seen.kind) ∙ stopped-held (is_held peek.kind) (stops peek.band.0) (sym is)

-- the message is stopped: it stays, and a writer waits for its band
abbrev kept_back : Side → ℕ → State ℕ → State ℕ
kept_back side band st =
    let waits = with_driver side (held_back (stream side st).driver.queue) st in
    writer_waits (other side) Up (driver_place (other side) waits) band waits

serves-stopped : (K : Behaviour) (side : Side) (m : Message ℕ) (rest : List (Message ℕ)) (st : State ℕ) → is_open (stream (other side) st).opened ≡ true → is_stopped_across side m st ≡ true
    → driver_serves K cells.plain side (m ∷ rest) st ≡ stayed_put Blocked (kept_back side (band_of m) st)
serves-stopped K side m rest st opened stop = rw (opened, stop) refl

serves-moved : (K : Behaviour) (side : Side) (m : Message ℕ) (rest : List (Message ℕ)) (st : State ℕ) → is_open (stream (other side) st).opened ≡ true → is_stopped_across side m st ≡ false
    → driver_serves K cells.plain side (m ∷ rest) st ≡ moved_across K cells.plain side m rest st
serves-moved K side m rest st opened goes = rw (opened, goes) refl

serves-closed : (K : Behaviour) (side : Side) (m : Message ℕ) (rest : List (Message ℕ)) (st : State ℕ) → is_open (stream (other side) st).opened
    ≡ false
    → driver_serves K cells.plain side (m ∷ rest) st ≡ stayed_put Blocked (with_driver side (held_back (stream side st).driver.queue) st)
serves-closed K side m rest st closed = rw closed refl

-- what is seen of both ends is what the state has
opened-at : (s : StoreValue) (p : Streams) (side : Side) → (stream side (state_in s p)).opened ≡ (end_at side p).opened
opened-at s p side = ap (λ (x : Stream ℕ). x.opened) (stream-is s p side)

stands-on : (s : StoreValue) (p : Streams) (side : Side) (e : StreamEnd) → e ≡ end_at side p → (stream side (state_in s p)).driver.queue.messages ≡ messages_on s e.driver.list
stands-on s p side e is = ap (λ (q : plain.Queue ℕ). q.messages) (driver-is s p side) ∙ ap (λ (y : StreamEnd). messages_on s y.driver.list) (sym is)

-- nothing stands there, or the other side isn't open
pub turned-none : (K : Behaviour) (s : StoreValue) (p : Streams) (side : Side) (e : StreamEnd) → e ≡ end_at side p
    → list_at s e.driver.list ≡ []
    → driver_turned K cells.plain side (state_in s p) ≡ stayed_put Idle (with_driver side (record (stream side (state_in s p)).driver.queue { want_read = true }) (state_in s p))
turned-none K s p side e is none = ap (λ ms. driver_serves K cells.plain side ms (state_in s p)) (stands-on s p side e is ∙ ap (map message_of) none)

pub turned-closed : (K : Behaviour) (s : StoreValue) (p : Streams) (side : Side) (e x : StreamEnd) → e ≡ end_at side p → x ≡ end_at (other side) p → is_open x.opened ≡ false
    → (peek : Peek) → PeekedFirst s e.driver.list peek → driver_turned K cells.plain side (state_in s p) ≡ stayed_put Blocked (with_driver side (held_back (stream side (state_in s p)).driver.queue) (state_in s p))
turned-closed K s p side e x e_is x_is closed peek seen =
    ap (λ ms. driver_serves K cells.plain side ms (state_in s p)) (stands-on s p side e e_is ∙ seen-before s e.driver.list peek seen)
    ∙ serves-closed K side (message_of seen.message) (map message_of seen.rest) (state_in s p) (ap is_open (opened-at s p (other side) ∙ ap (λ (y : StreamEnd). y.opened) (sym x_is)) ∙ closed)

-- whether the next queue above a driver has no room for a band
abbrev full_above : Side → State ℕ → ℕ → Bool
full_above side st band = not (has_room_past (other side) Up (driver_place (other side) st) band st)

module _ (s : StoreValue) (p : Streams) (side : Side) (e x : StreamEnd) (e_is : e ≡ end_at side p) (x_is : x ≡ end_at (other side) p) (opened : is_open x.opened ≡ true)
    (peek : Peek) (seen : PeekedFirst s e.driver.list peek) (stops : Bool) (asked : stops ≡ (is_held peek.kind && full_above side (state_in s p) peek.band.0)) where
  is-open-there : is_open (stream (other side) (state_in s p)).opened ≡ true
  is-open-there = ap is_open (opened-at s p (other side) ∙ ap (λ (y : StreamEnd). y.opened) (sym x_is)) ∙ opened

  stands : (stream side (state_in s p)).driver.queue.messages ≡ message_of seen.message ∷ map message_of seen.rest
  stands = stands-on s p side e e_is ∙ seen-before s e.driver.list peek seen

  stopped-is : is_stopped_across side (message_of seen.message) (state_in s p) ≡ stops
  stopped-is = sym (seen-stopped s e.driver.list peek seen (full_above side (state_in s p))) ∙ sym asked

  pub turned-stopped : (K : Behaviour) → stops ≡ true → driver_turned K cells.plain side (state_in s p)
      ≡ stayed_put Blocked (kept_back side peek.band.0 (state_in s p))
  turned-stopped K stop =
      let held = seen-held s e.driver.list peek seen (full_above side (state_in s p)) (sym asked ∙ stop) in
      ap (λ ms. driver_serves K cells.plain side ms (state_in s p)) stands
      ∙ serves-stopped K side (message_of seen.message) (map message_of seen.rest) (state_in s p) is-open-there (stopped-is ∙ stop)
      ∙ ap (λ b. stayed_put Blocked (kept_back side b (state_in s p))) (held-band seen.message held ∙ sym seen.seen.band)

  pub turned-moved : (K : Behaviour) → stops ≡ false → (m : Message ℕ) (rest : List (Message ℕ)) → (stream side (state_in s p)).driver.queue.messages ≡ m ∷ rest → driver_turned K cells.plain side (state_in s p) ≡ moved_across K cells.plain side m rest (state_in s p)
  turned-moved K goes m rest first =
      let same : message_of seen.message ≡ m = ap (λ ms. first_message ms m) (sym stands ∙ first) in
      ap (λ ms. driver_serves K cells.plain side ms (state_in s p)) first
      ∙ serves-moved K side m rest (state_in s p) is-open-there (ap (λ y. is_stopped_across side y (state_in s p)) (sym same) ∙ stopped-is ∙ goes)
