-- Forgetting the origins of cells commutes with turns of the drivers.
use Rattle.strm_laws.proofs.Prelude.{ℕ, ◌≡◌, Bool, true, false, cond, List, [], ◌∷◌, refl, sym, ap, ◌∙◌, suc, ◌==◌, ◌&&◌, ◌||◌, not, Option}
use Rattle.strm_laws.specs.Prelude.{Moved, Blocked, MsgKind, QueueName, Side, Master, Slave, Spot, Up, AreCells, Cells, plain, Carried, Message}
use Rattle.strm_laws.specs.Prelude.{size_of, band_of, is_held, map_message, driver_of, enable_if, enable_some, is_open, other, map_carried, Queue}
use Rattle.strm_laws.specs.Prelude.{is_none_left, left_with, relieved, relieves, map_messages, map_queue}
use Rattle.strm_laws.specs.Behaviours.{Behaviour}
use Rattle.strm_laws.specs.Earlier.{before_driver, driver_place}
use Rattle.strm_laws.specs.Puts.{delivered}
use Rattle.strm_laws.specs.State.{State, stream, map_state}
use Rattle.strm_laws.specs.TurnOutcomes.{TurnOutcome, map_turn_outcome, stayed_put}
use Rattle.strm_laws.specs.Turns.{blocked_across, driver_serves, driver_turned, held_back, is_stopped_across, moved_across, turn_ended, turned_queue, up_across, with_driver}
use Rattle.strm_laws.proofs.Earlier.{before_driver-forgets, modules_on-forgets}
use Rattle.strm_laws.proofs.EmptiedForgets.{stream-forgets}
use Rattle.strm_laws.proofs.Forgetting.{band-forgets, kind-forgets, none-forgets, relieved-forgets, relieves_from-forgets, size-forgets}
use Rattle.strm_laws.proofs.PutsForget.{delivered-forgets}
use Rattle.strm_laws.specs.Past.{has_room_past}
use Rattle.strm_laws.proofs.Past.{room-forgets, writer_waits-forgets}

-- the end of a turn: the queue behind it, whether more stands there, and whether a writer is let go
abbrev ended_made : {E : Type 0} → Side → Queue E → Bool → Bool → Option QueueName → State E → State E
ended_made side q more goes earlier s = record (with_driver side q s) {
  enabled = enable_if more (driver_of side) (enable_some goes earlier s.enabled);
}

-- a place of a side's stream on the way up
abbrev up_spot : Side → ℕ → Spot
up_spot side at = record { side = side; at = at; way = Up }

-- a turn that moved a message of this size
abbrev moved_made : {E : Type 0} → Side → ℕ → Carried E (State E) → TurnOutcome E
moved_made side size t = record { turn = Moved size; state = turn_ended side size t.state; gone = t.gone }

-- a turn by whether the other side is open, and whether flow control stops the message
abbrev served : {E : Type 0} → Bool → Bool → TurnOutcome E → TurnOutcome E → TurnOutcome E → TurnOutcome E
served opened stopped shut waits moves = cond (not opened) shut (cond stopped waits moves)

module _ {C D : Type 0} (f : C → D) where
  place-forgets : (side : Side) (s : State C) → driver_place side (map_state f s) ≡ driver_place side s
  place-forgets side s = ap (λ (n : ℕ). suc n) (modules_on-forgets f side s)

  stopped-forgets : (side : Side) (m : Message C) (s : State C) → is_stopped_across side (map_message f m) (map_state f s) ≡ is_stopped_across side m s
  stopped-forgets side m s =
      let there = driver_place (other side) s in
      ap (λ (kind : MsgKind). is_held kind && not (has_room_past (other side) Up (driver_place (other side) (map_state f s)) (band_of (map_message f m)) (map_state f s))) (kind-forgets f m)
      ∙ ap (λ (at : ℕ). is_held m.kind && not (has_room_past (other side) Up at (band_of (map_message f m)) (map_state f s))) (place-forgets (other side) s)
      ∙ ap (λ (band : ℕ). is_held m.kind && not (has_room_past (other side) Up there band (map_state f s))) (band-forgets f m)
      ∙ ap (λ (room : Bool). is_held m.kind && not room) (room-forgets f (other side) Up there (band_of m) s)

  ended_made-forgets : (side : Side) (q : Queue C) (more goes : Bool) (earlier : Option QueueName) (s : State C) → ended_made side (map_queue f q) more goes earlier (map_state f s) ≡ map_state f (ended_made side q more goes earlier s)
  ended_made-forgets Master q more goes earlier s = refl
  ended_made-forgets Slave q more goes earlier s = refl

  turned_queue-forgets : (q : Queue C) → turned_queue (map_queue f q) ≡ map_queue f (turned_queue q)
  turned_queue-forgets q = ap (λ (none : Bool). record (map_queue f q) { want_read = q.want_read || none }) (none-forgets f (map_message f) q.messages)

  left-forgets : (went : Bool) (q : Queue C) → cond went (relieved (map_queue f q)) (map_queue f q) ≡ map_queue f (cond went (relieved q) q)
  left-forgets true q = sym (relieved-forgets f q)
  left-forgets false q = refl

  turn_ended-forgets : (side : Side) (size : ℕ) (s : State C) → turn_ended side size (map_state f s) ≡ map_state f (turn_ended side size s)
  turn_ended-forgets side size s = over side
    where
      from : (side : Side) (went : Bool) (q : Queue C) → let r = turned_queue (map_queue f q) in
          ended_made side (cond went (relieved r) r) (not (is_none_left r.messages)) (went && relieves r) (before_driver side (map_state f s)) (map_state f s)
          ≡ (let r = turned_queue q in map_state f (ended_made side (cond went (relieved r) r) (not (is_none_left r.messages)) (went && relieves r) (before_driver side s) s))
      from side went q =
          let r = turned_queue q in
          let image = turned_queue (map_queue f q) in
          let earlier = before_driver side s in
          ap (λ (e : Option QueueName). ended_made side (cond went (relieved image) image) (not (is_none_left image.messages)) (went && relieves image) e (map_state f s)) (before_driver-forgets f side s)
          ∙ ap (λ (x : Queue D). ended_made side (cond went (relieved x) x) (not (is_none_left x.messages)) (went && relieves x) earlier (map_state f s)) (turned_queue-forgets q)
          ∙ ap (λ (x : Queue D). ended_made side x (not (is_none_left (map_messages f r.messages))) (went && relieves (map_queue f r)) earlier (map_state f s)) (left-forgets went r)
          ∙ ap (λ (none : Bool). ended_made side (map_queue f (cond went (relieved r) r)) (not none) (went && relieves (map_queue f r)) earlier (map_state f s)) (none-forgets f (map_message f) r.messages)
          ∙ ap (λ (goes : Bool). ended_made side (map_queue f (cond went (relieved r) r)) (not (is_none_left r.messages)) (went && goes) earlier (map_state f s)) (relieves_from-forgets f 0 r.messages r.flows)
          ∙ ended_made-forgets side (cond went (relieved r) r) (not (is_none_left r.messages)) (went && relieves r) earlier s

      over : (side : Side) → turn_ended side size (map_state f s) ≡ map_state f (turn_ended side size s)
      over Master = from Master (not (size == 0)) s.ends.master.driver.queue
      over Slave = from Slave (not (size == 0)) s.ends.slave.driver.queue

  moved_made-forgets : (side : Side) (size : ℕ) (t : Carried C (State C)) → moved_made side size (map_carried f (map_state f) t) ≡ map_turn_outcome f (moved_made side size t)
  moved_made-forgets side size t = ap (λ (s : State D). record { turn = Moved size; state = s; gone = (map_carried f (map_state f) t).gone }) (turn_ended-forgets side size t.state)

  taken-forgets : (side : Side) (rest : List (Message C)) (s : State C) → with_driver side (left_with (map_messages f rest) (stream side (map_state f s)).driver.queue) (map_state f s) ≡ map_state f (with_driver side (left_with rest (stream side s).driver.queue) s)
  taken-forgets Master rest s = refl
  taken-forgets Slave rest s = refl

  across-forgets : (side : Side) (s : State C) → up_across side (map_state f s) ≡ up_across side s
  across-forgets side s = ap (λ (at : ℕ). up_spot (other side) at) (modules_on-forgets f (other side) s)

  held-forgets : (side : Side) (s : State C) → with_driver side (held_back (stream side (map_state f s)).driver.queue) (map_state f s) ≡ map_state f (with_driver side (held_back (stream side s).driver.queue) s)
  held-forgets Master s = refl
  held-forgets Slave s = refl

  blocked-forgets : (side : Side) (m : Message C) (s : State C) → blocked_across side (map_message f m) (map_state f s) ≡ map_state f (blocked_across side m s)
  blocked-forgets side m s =
      let there = driver_place (other side) s in
      rw (place-forgets (other side) s, band-forgets f m) (writer_waits-forgets f (other side) Up there (band_of m) s)

  served-forgets : (opened stopped : Bool) (shut waits moves : TurnOutcome C) (shut' waits' moves' : TurnOutcome D) → shut' ≡ map_turn_outcome f shut → waits' ≡ map_turn_outcome f waits → moves' ≡ map_turn_outcome f moves
      → served opened stopped shut' waits' moves' ≡ map_turn_outcome f (served opened stopped shut waits moves)
  served-forgets false stopped shut waits moves shut' waits' moves' one two three = one
  served-forgets true true shut waits moves shut' waits' moves' one two three = two
  served-forgets true false shut waits moves shut' waits' moves' one two three = three

module _ {C : Type 0} (cells : Cells C) (are : AreCells cells) where
  abbrev f : C → ℕ
  f = cells.byte

  moved-forgets : (K : Behaviour) (side : Side) (m : Message C) (rest : List (Message C)) (s : State C) → moved_across K plain side (map_message f m) (map_messages f rest) (map_state f s) ≡ map_turn_outcome f (moved_across K cells side m rest s)
  moved-forgets K side m rest s =
      let from = with_driver side (left_with rest (stream side s).driver.queue) s in
      ap (λ (x : State ℕ). moved_made side (size_of (map_message f m)) (delivered K plain (up_across side x) (map_message f m) x)) (taken-forgets f side rest s)
      ∙ ap (λ (to : Spot). moved_made side (size_of (map_message f m)) (delivered K plain to (map_message f m) (map_state f from))) (across-forgets f side from)
      ∙ ap (λ (size : ℕ). moved_made side size (delivered K plain (up_across side from) (map_message f m) (map_state f from))) (size-forgets f m)
      ∙ ap (λ (t : Carried ℕ (State ℕ)). moved_made side (size_of m) t) (delivered-forgets cells are K (up_across side from) m from)
      ∙ moved_made-forgets f side (size_of m) (delivered K cells (up_across side from) m from)

  serves-some : (K : Behaviour) (side : Side) (m : Message C) (rest : List (Message C)) (s : State C) → driver_serves K plain side (map_message f m ∷ map_messages f rest) (map_state f s) ≡ map_turn_outcome f (driver_serves K cells side (m ∷ rest) s)
  serves-some K side m rest s =
      let above = stream (other side) s in
      let held = held_back (stream side (map_state f s)).driver.queue in
      let waits = with_driver side held (map_state f s) in
      let kept = with_driver side (held_back (stream side s).driver.queue) s in
      let moves = moved_across K plain side (map_message f m) (map_messages f rest) (map_state f s) in
      let shut = stayed_put Blocked waits in
      let blocked = stayed_put Blocked (blocked_across side (map_message f m) waits) in
      ap (λ t. served (is_open t.opened) (is_stopped_across side (map_message f m) (map_state f s)) shut blocked moves) (stream-forgets f (other side) s)
      ∙ ap (λ (stopped : Bool). served (is_open above.opened) stopped shut blocked moves) (stopped-forgets f side m s)
      ∙ served-forgets f (is_open above.opened) (is_stopped_across side m s) (stayed_put Blocked kept) (stayed_put Blocked (blocked_across side m kept)) (moved_across K cells side m rest s) shut blocked moves
      (ap (λ (x : State ℕ). stayed_put Blocked x) (held-forgets f side s))
      (ap (λ (x : State ℕ). stayed_put Blocked (blocked_across side (map_message f m) x)) (held-forgets f side s) ∙ ap (λ (x : State ℕ). stayed_put Blocked x) (blocked-forgets f side m kept))
      (moved-forgets K side m rest s)

  pub driver_turned-forgets : (K : Behaviour) (side : Side) (s : State C) → driver_turned K plain side (map_state f s)
      ≡ map_turn_outcome f (driver_turned K cells side s)
  driver_turned-forgets K side s = over side
    where
      from : (side : Side) (ms : List (Message C)) → driver_serves K plain side (map_messages f ms) (map_state f s) ≡ map_turn_outcome f (driver_serves K cells side ms s)
      from Master [] = refl
      from Slave [] = refl
      from Master (m ∷ rest) = serves-some K Master m rest s
      from Slave (m ∷ rest) = serves-some K Slave m rest s

      over : (side : Side) → driver_turned K plain side (map_state f s) ≡ map_turn_outcome f (driver_turned K cells side s)
      over Master = from Master s.ends.master.driver.queue.messages
      over Slave = from Slave s.ends.slave.driver.queue.messages
