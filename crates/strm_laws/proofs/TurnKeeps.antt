-- A turn loses no cell, and leaves the ends as they are and a side that isn't open nothing to be read.
use Rattle.strm_laws.proofs.Prelude.{ℕ, ◌≡◌, ◌+◌, Bool, true, false, cond, List, [], ◌∷◌, refl, ap, arith, ◌==◌, not, weight-take}
use Rattle.strm_laws.specs.Prelude.{Turn, Side, Master, Slave, Place, Driver, QueueName, Dir, Cells, Message, size_of, band_of, weight_of}
use Rattle.strm_laws.specs.Prelude.{is_open, other, without, direction_at, direction_from, Queue, left_with, relieved, weight, Up, Down}
use Rattle.strm_types.specs.declared.names.Place.TheVariants.{Head}
use Rattle.strm_types.specs.declared.names.Place.TheVariants as places
use Rattle.strm_laws.specs.Behaviours.{Behaviour, MayTestOwn}
use Rattle.strm_laws.proofs.LdtermKeeps.{way-up}
use Rattle.strm_laws.specs.Kept.{AreIdle, state_weight, tests_at}
use Rattle.strm_laws.specs.Places.{weight_gone, weight_made, direction_to}
use Rattle.strm_laws.specs.Puts.{SameButMade, delivered}
use Rattle.strm_laws.specs.State.{State, stream, with_driver_queue}
use Rattle.strm_laws.specs.TurnOutcomes.{TurnOutcome}
use Rattle.strm_laws.specs.Turns.{blocked_across, driver_serves, held_back, is_stopped_across, moved_across, turned, turned_at, turned_queue, turn_ended, up_across, with_driver}
use Rattle.strm_laws.proofs.TurnHolds.{any-holds, turn-holds, turns-stay}
use Rattle.strm_laws.proofs.Deliveries.{delivered-keeps}
use Rattle.strm_laws.proofs.PutsKeep.{same-itself, same-stays, same-with}
use Rattle.strm_laws.proofs.ModuleTurnKeeps.{module_turned-keeps}
use Rattle.strm_laws.specs.Earlier.{driver_place, modules_on}
use Rattle.strm_laws.proofs.Past.{waits-keeps}
use Rattle.strm_laws.proofs.StreamWeights.{same-weighs, stream-weighs}

module _ {C : Type 0} where
  -- the end of a turn leaves all messages on its queue
  left-there : (went : Bool) (q : Queue C) → (cond went (relieved q) q).messages ≡ q.messages
  left-there true q = refl
  left-there false q = refl

module _ {C : Type 0} (s : State C) where
  with-same : (side : Side) (q : Queue C) (t : State C) → SameButMade s t → SameButMade s (with_driver side q t)
  with-same side q t same = same-with s side (with_driver_queue q (stream side t)) t refl same

  pub turn-same : (K : Behaviour) (cells : Cells C) (name : QueueName) (turn : Turn) → SameButMade s (turned K cells name turn s).state
  turn-same K cells name turn =
      turn-holds K (SameButMade s) (turns-stay K (SameButMade s) with-same (same-stays s)) cells name turn s
      (same-itself s)

module _ {C : Type 0} (p : Dir → C → Bool) where
  -- a turn in a pair that had so many cells
  abbrev Keeps : TurnOutcome C → ℕ → Type 0
  Keeps t n = state_weight p t.state + weight_gone p t.gone ≡ n + weight_made p t.gone

  same-weight : (t : C → Bool) (xs ys : List (Message C)) → xs ≡ ys → weight t xs ≡ weight t ys
  same-weight t xs ys is = ap (λ (q : List (Message C)). weight t q) is

  ended-keeps : (side : Side) (size : ℕ) (s : State C) → state_weight p (turn_ended side size s) ≡ state_weight p s
  ended-keeps side size s =
      let t = stream side s in
      let q = cond (not (size == 0)) (relieved (turned_queue t.driver.queue)) (turned_queue t.driver.queue) in
      same-weighs p side (with_driver_queue q t) s (omega (arith, same-weight (p (direction_at Down side)) _ _ (left-there (not (size == 0)) (turned_queue t.driver.queue))))

  taken-keeps : (side : Side) (m : Message C) (rest : List (Message C)) (s : State C) → (stream side s).driver.queue.messages ≡ m ∷ rest → state_weight p (with_driver side (left_with rest (stream side s).driver.queue) s) + weight_of (p (direction_from side)) m ≡ state_weight p s
  taken-keeps side m rest s is =
      let q = (stream side s).driver.queue in
      omega (arith, stream-weighs p side (with_driver_queue (left_with rest q) (stream side s)) s, same-weight (p (direction_at Down side)) _ _ is, weight-take (p (direction_at Down side)) m rest)

  -- it goes on in its direction
  across-weighs : (side : Side) (m : Message C) (at : ℕ) → weight_of (p (direction_to (record { side = other side; at = at; way = Up }))) m ≡ weight_of (p (direction_from side)) m
  across-weighs Master m at = ap (λ way. weight_of (p (direction_at way Slave)) m) (way-up at)
  across-weighs Slave m at = ap (λ way. weight_of (p (direction_at way Master)) m) (way-up at)

  moved-keeps : (K : Behaviour) (cells : Cells C) → MayTestOwn K cells p → (side : Side) (m : Message C) (rest : List (Message C)) (s : State C)
      → (stream side s).driver.queue.messages ≡ m ∷ rest → Keeps (moved_across K cells side m rest s) (state_weight p s)
  moved-keeps K cells tests side m rest s is =
      let from = with_driver side (left_with rest (stream side s).driver.queue) s in
      omega (arith, ended-keeps side (size_of m) (delivered K cells (up_across side from) m from).state, delivered-keeps K cells p tests (up_across side from) m from, taken-keeps side m rest s is, across-weighs side m (modules_on (other side) from))

  blocked-keeps : (side : Side) (m : Message C) (s : State C) → state_weight p (blocked_across side m s) ≡ state_weight p s
  blocked-keeps side m s = waits-keeps p (other side) Up (driver_place (other side) s) (band_of m) s

  held-keeps : (side : Side) (s : State C) (want : Bool) → state_weight p (with_driver side (record (stream side s).driver.queue { want_read = want }) s) ≡ state_weight p s
  held-keeps side s want = same-weighs p side (with_driver_queue (record (stream side s).driver.queue { want_read = want }) (stream side s)) s refl

  serves-keeps : (K : Behaviour) (cells : Cells C) → MayTestOwn K cells p → (side : Side) (ms : List (Message C)) (s : State C)
      → (stream side s).driver.queue.messages ≡ ms → Keeps (driver_serves K cells side ms s) (state_weight p s)
  serves-keeps K cells tests side [] s is = omega (arith, held-keeps side s true)
  serves-keeps K cells tests side (m ∷ rest) s is =
      any-holds (λ t. Keeps t (state_weight p s)) (is_open (stream (other side) s).opened) (is_stopped_across side m s) _ _ _
      (omega (arith, held-keeps side s false))
      (omega (arith, held-keeps side s false, blocked-keeps side m (with_driver side (held_back (stream side s).driver.queue) s)))
      (moved-keeps K cells tests side m rest s is)

  pub turn-keeps : (K : Behaviour) (cells : Cells C) (name : QueueName) → tests_at K cells p name.place → (turn : Turn) (s : State C) → AreIdle s → Keeps (turned K cells name turn s) (state_weight p s)
  turn-keeps K cells name tests turn s idle = at name.place tests (record s { enabled = without name s.enabled }) idle
    where
      at : (place : Place) → tests_at K cells p place → (s : State C) → AreIdle s → Keeps (turned_at K cells place name turn s) (state_weight p s)
      at Driver tests s idle = serves-keeps K cells tests name.side (stream name.side s).driver.queue.messages s refl
      at Head tests s idle = omega arith
      at (places.Module owner) ignores s idle = module_turned-keeps p K cells ignores name turn s idle
