-- Where no module stands, a message with parts that goes down is put on the driver's queue.
use Rattle.strm_laws.proofs.Prelude.{ℕ, ◌≡◌, Bool, true, false, cond, List, [], ◌∷◌, refl, ap, ◌∙◌, nat_le, Option, Some}
use Rattle.strm_laws.specs.Prelude.{QueueName, Side, Way, Down, Enable, Spot, Cells, Acted, driver_put, put_down, taken_in, Message, has_parts}
use Rattle.strm_laws.specs.Prelude.{driver_of, enable_if, is_closed, Queue, put_on, put_enables}
use Rattle.strm_types.specs.declared.names.Place.TheVariants as places
use Rattle.strm_laws.specs.Behaviours.{Behaviour}
use Rattle.strm_laws.specs.Earlier.{NoModules, driver_place}
use Rattle.strm_laws.specs.PutEffect.{put_effect}
use Rattle.strm_laws.specs.Puts.{across_of, delivered, earlier_at, noted, put_at_driver, put_at_module}
use Rattle.strm_laws.specs.State.{State, stream, with_stream, with_driver_queue}
use Rattle.strm_laws.proofs.Earlier.{none-on}
use Rattle.strm_laws.proofs.FlushDelivered.{carries, driver_took, went_on}

abbrev below : Side → Spot
below side = record { side = side; at = 1; way = Down }

enabled-noted : (side : Side) (earlier : Way → Option QueueName) (enables : Bool) (names : List QueueName) → noted side (Some places.Driver) earlier (cond enables (Enable Down ∷ []) []) names ≡ enable_if enables (driver_of side) names
enabled-noted side earlier true names = refl
enabled-noted side earlier false names = refl

module _ {C : Type 0} where
  -- a message with parts is taken in
  abbrev taken : Side → Bool → Message C → State C → Acted C (Queue C)
  taken side ended m s = taken_in side (record (across_of side s) { ended = ended }) m (stream side s).driver.queue

  is-taken : (side : Side) (m : Message C) (s : State C) → has_parts m ≡ true → driver_put side (across_of side s) (record (below side) { at = driver_place side s }) m (stream side s).driver.queue ≡ taken side (is_closed s.ends.master.opened) m s
  is-taken side m s parts =
      ap (λ (b : Bool). cond b (taken side (is_closed s.ends.master.opened) m s) (put_down side (across_of side s) (record (below side) { at = driver_place side s }) m.kind m (stream side s).driver.queue)) parts

  pub put-delivered : (K : Behaviour) (cells : Cells C) (side : Side) (m : Message C) (s : State C) → has_parts m ≡ true → is_closed s.ends.master.opened ≡ false → NoModules s → delivered K cells (below side) m s ≡ put_effect side m s
  put-delivered K cells side m s parts stays none =
      carries cells K 15 (record { to = below side; message = m }) s
      ∙ ap (λ (count : ℕ). went_on cells K 15 (cond (nat_le 1 count) (put_at_module K cells (below side) m s) (put_at_driver side (below side) m s))) (none-on side s none)
      ∙ ap (λ t. went_on cells K 15 (driver_took cells side t s)) (is-taken side m s parts ∙ ap (λ (ended : Bool). taken side ended m s) stays)
      ∙ ap (λ (names : List QueueName). record { state = record (with_stream side (with_driver_queue (put_on m (stream side s).driver.queue) (stream side s)) s) { enabled = names }; gone = [] })
      (enabled-noted side (earlier_at side (driver_place side s) s) (put_enables m (stream side s).driver.queue) s.enabled)
