-- A turn of a pair of good streams leaves them good.
use Rattle.strm_laws.proofs.Prelude.{ℕ, zero, suc, ◌≡◌, ◌+◌, ◌-◌, ◌*◌, Bool, true, false, cond, List, [], ◌∷◌, ◌==◌, not, is_some, Option, None, Some}
use Rattle.strm_laws.specs.Prelude.{Turn, MsgKind, HOPS, Place, Driver, QueueName, Side, Way, Up, Down, Asks, Spot, Cells, carried, in_turn}
use Rattle.strm_laws.specs.Prelude.{Message, band_of, size_of, at_place, place_past, with_waiting, waits_there, QueuePair, pair_changed}
use Rattle.strm_laws.specs.Prelude.{queue_changed, stood, change_among, is_open, other, have_queues, without, IsOrdered, Queue, left_with, relieved}
use Rattle.strm_laws.specs.Prelude.{turn_ended}
use Rattle.std.specs.List.{AllByRecursion}
use Rattle.strm_types.specs.declared.names.Place.TheVariants.{Head}
use Rattle.strm_types.specs.declared.names.Place.TheVariants as places
use Rattle.strm_types.specs.declared.spots.Asks.TheVariants as asked
use Rattle.strm_laws.specs.Behaviours.{Behaviour}
use Rattle.strm_laws.specs.Earlier.{driver_place}
use Rattle.strm_laws.specs.ModuleTurns.{Calls, again_at, asked_turn, bytes_at, call_at, calls, made_below, module_called, moved_on, moved_within, place_named, queue_ended, turned_named, turned_there, waits_there as writers_wait}
use Rattle.strm_laws.specs.Past.{has_room_past, waits_on, writer_waits}
use Rattle.strm_laws.specs.Puts.{delivered, put_in}
use Rattle.strm_laws.specs.GoodMessages.{GoodMessage}
use Rattle.strm_laws.specs.Restorable.{GoodModule, GoodPair, GoodQueue, GoodStream, StandsOn, goes_out, stands_below}
use Rattle.strm_laws.specs.Stacked.{Standing, module_asks, module_name, module_rests, module_serves}
use Rattle.strm_laws.specs.State.{State, Stream, stream, with_driver_queue, with_head_queue, with_stream}
use Rattle.strm_laws.specs.TurnOutcomes.{TurnOutcome}
use Rattle.strm_laws.specs.Turns.{driver_serves, held_back, is_stopped_across, moved_across, turned, turned_at, turned_queue, up_across, with_driver, turn_ended as driver_turn_ended}
use Rattle.strm_laws.proofs.GoodDeliveries.{delivered-good, sent-good}
use Rattle.strm_laws.proofs.GoodQueues.{ended-good, relieved-good, waiting-good}
use Rattle.strm_laws.proofs.GoodStreams.{AreStreams, acted-good, acts-good, changes-good, driver-queue-good, modules-good, stream-parts, streams-with}
use Rattle.strm_laws.proofs.SameNames.{queue-names, serve-names}
use Rattle.strm_laws.proofs.TurnHolds.{any-holds}
use Rattle.strm_laws.proofs.LawfulKinds.{calls-lawfully}

-- what holds of both holds of the one that is chosen
module _ {C : Type 0} (P : State C → Type 0) where
  pub outcome-holds : (b : Bool) (one another : TurnOutcome C) → P one.state → P another.state → P (cond b one another).state
  outcome-holds true one another first second = first
  outcome-holds false one another first second = second

  pub calls-either : (b : Bool) (one another : Calls C) → P one.state → P another.state → P (cond b one another).state
  calls-either true one another first second = first
  calls-either false one another first second = second

module _ {C : Type 0} where
  -- a queue of a module changes, and is as good whatever may stand there
  change-at : (way : Way) (change : Queue C → Queue C) → ((stands : MsgKind → Bool) (q : Queue C) → GoodQueue stands q → GoodQueue stands (change q))
      → (p : Standing C) → GoodModule p → GoodModule (queue_changed way change p)
  change-at way change keeps p good = by p.queues good.queues good.has
    where
      pair-changes : (way : Way) (pair : QueuePair C) → GoodPair (Some pair) → GoodPair (Some (pair_changed way change pair))
      pair-changes Up pair are = (keeps waits_there pair.read are.0, are.1)
      pair-changes Down pair are = (are.0, keeps goes_out pair.write are.1)

      by : (queues : Option (QueuePair C)) → GoodPair queues → is_some queues ≡ have_queues (module_name p) → GoodModule (queue_changed way change (stood p.part queues))
      by None are has = record { kind = good.kind; queues = tt; has = has }
      by (Some pair) are has = record { kind = good.kind; queues = pair-changes way pair are; has = has }

  change-stack : (side : Side) (way : Way) (change : Queue C → Queue C) → ((stands : MsgKind → Bool) (q : Queue C) → GoodQueue stands q → GoodQueue stands (change q))
      → (i : ℕ) (t : Stream C) → GoodStream side t → GoodStream side (record t { modules = change_among (queue_changed way change) i t.modules })
  change-stack side way change keeps i t good =
      modules-good side _ t (queue-names way change i t.modules) (changes-good (queue_changed way change) (change-at way change keeps) i t.modules good.modules.each) good

  -- a writer waits
  head-waits : (side : Side) (band : ℕ) (t : Stream C) → GoodStream side t → GoodStream side (with_head_queue (with_waiting band t.head.queue) t)
  head-waits side band t good = record {
    head = record { queue = waiting-good _ band t.head.queue good.head.queue; group = good.head.group };
    modules = good.modules;
    driver = good.driver;
    shut = λ closed. (let was = good.shut closed in record { modules = was.modules; signals = was.signals; ioctl = was.ioctl; unread = was.unread });
  }

  waits-stream : (side : Side) (way : Way) (band : ℕ) (o : Option ℕ) (t : Stream C) → GoodStream side t → GoodStream side (waits_on way band o t)
  waits-stream side Up band None t good = head-waits side band t good
  waits-stream side Down band None t good = driver-queue-good side _ t (waiting-good stands_below band t.driver.queue good.driver) good
  waits-stream side way band (Some place) t good = change-stack side way (with_waiting band) (λ stands q fits. waiting-good stands band q fits) (place - 1) t good

  waits-good : (side : Side) (way : Way) (at band : ℕ) (s : State C) → AreStreams s → AreStreams (writer_waits side way at band s)
  waits-good side way at band s all =
      let t = stream side s in
      let o = place_past way at t.modules in
      streams-with side (waits_on way band o t) s (waits-stream side way band o t (all.0 side)) all

  ended-streams : (here : Spot) (took : Bool) (s : State C) → AreStreams s → AreStreams (with_stream here.side (queue_ended here took (stream here.side s)) s)
  ended-streams here took s all =
      let t = stream here.side s in
      streams-with here.side (queue_ended here took t) s (change-stack here.side here.way (turn_ended took) (λ stands q fits. ended-good stands took q fits) (here.at - 1) t (all.0 here.side)) all

  driver-streams : (side : Side) (q : Queue C) (s : State C) → GoodQueue stands_below q → AreStreams s → AreStreams (with_driver side q s)
  driver-streams side q s fits all = streams-with side (with_driver_queue q (stream side s)) s (driver-queue-good side q (stream side s) fits (all.0 side)) all

module _ {C : Type 0} (cells : Cells C) where
  pub delivered-streams : (K : Behaviour) (to : Spot) (m : Message C) (s : State C) → GoodMessage m → AreStreams s
      → AreStreams (delivered K cells to m s).state
  delivered-streams K to m s fits all = delivered-good GoodMessage AreStreams K cells (stream-parts cells K) to m s fits all

  module _ (K : Behaviour) (here : Spot) where
    -- a call, and the delivery of what it sent
    pub call-good : (again : Bool) (left : ℕ) (s : State C) → AreStreams s → let t = module_called K cells here again left s in AreStreams (in_turn (carried (put_in K cells) HOPS) t.sent t.state).state
    call-good again left s all =
        let ps = (stream here.side s).modules in
        let made = made_below here.side s in
        let i = here.at - 1 in
        let t = module_called K cells here again left s in
        let acted = call_at K cells here made again left ps in
        let good =
        acts-good (λ p. (module_serves K cells here made again (Some left) p).acted) (λ p. (calls-lawfully K p cells here made again).good (Some left))
        i ps (all.0 here.side).modules.each in
        let took = acted-good cells here acted s (serve-names K cells here made again (Some left) i ps) good all in
        sent-good GoodMessage AreStreams K cells (stream-parts cells K) t.sent t.state took.sent took.state

    calls-good : (n : ℕ) (again : Bool) (left : ℕ) (s : State C) → AreStreams s → AreStreams (calls K cells here n again left s).state
    calls-good zero again left s all = all
    calls-good (suc more) again left s all =
        let ps = (stream here.side s).modules in
        let made = made_below here.side s in
        let t = module_called K cells here again left s in
        let u = in_turn (carried (put_in K cells) HOPS) t.sent t.state in
        let sent = call-good again left s all in
        calls-either AreStreams (again_at K cells here made again left ps) _ _ (calls-good more true (left - bytes_at K cells here made again left ps) u.state sent) sent

    moved-good : (name : QueueName) (bytes : ℕ) (s : State C) → AreStreams s → AreStreams (moved_on K cells here name bytes s).state
    moved-good name bytes s all =
        let t = calls K cells here (3 * bytes + 1) false bytes s in
        outcome-holds AreStreams t.ended _ _ (ended-streams here (not (t.bytes == 0)) t.state (calls-good (3 * bytes + 1) false bytes s all)) all

    asked-good : (asks : Asks) (name : QueueName) (turn : Turn) (s : State C) → AreStreams s → AreStreams (asked_turn K cells here asks name turn s).state
    asked-good asked.Empty name turn s all = ended-streams here false s all
    asked-good asked.Held name turn s all = ended-streams here false s all
    asked-good asked.Free name turn s all = moved-good name _ s all
    asked-good (asked.Room band) name turn s all =
        let waiting = writer_waits here.side here.way here.at band.0 s in
        outcome-holds AreStreams (has_room_past here.side here.way here.at band.0 s) (moved_within K cells here name turn s) (writers_wait band.0 here s) (moved-good name _ s all)
        (ended-streams here false waiting (waits-good here.side here.way here.at band.0 s all))

    there-good : (name : QueueName) (turn : Turn) (s : State C) → AreStreams s → AreStreams (turned_there K cells here name turn s).state
    there-good name turn s all =
        let ps = (stream here.side s).modules in
        outcome-holds AreStreams (at_place module_rests false here.at ps) _ _ (asked-good (at_place (module_asks K cells here.way) asked.Empty here.at ps) name turn s all) all

  named-good : (K : Behaviour) (name : QueueName) (turn : Turn) (s : State C) (o : Option ℕ) → AreStreams s
      → AreStreams (turned_named K cells name turn s o).state
  named-good K name turn s None all = all
  named-good K name turn s (Some at) all = there-good K (record { side = name.side; at = at; way = name.way }) name turn s all

  -- drivers
  driver-ended : (side : Side) (size : ℕ) (s : State C) → AreStreams s → AreStreams (driver_turn_ended side size s)
  driver-ended side size s all =
      let q = turned_queue (stream side s).driver.queue in
      let fits : GoodQueue stands_below q = record { messages = (all.0 side).driver.messages; order = (all.0 side).driver.order; marks = (all.0 side).driver.marks } in
      driver-streams side _ s (at (not (size == 0)) q fits) all
    where
      at : (went : Bool) (q : Queue C) → GoodQueue stands_below q → GoodQueue stands_below (cond went (relieved q) q)
      at true q fits = relieved-good stands_below q fits
      at false q fits = fits

  moved-driver : (K : Behaviour) (side : Side) (m : Message C) (rest : List (Message C)) (s : State C) → StandsOn stands_below m → AllByRecursion (λ m. StandsOn stands_below m) rest → IsOrdered rest → AreStreams s → AreStreams (moved_across K cells side m rest s).state
  moved-driver K side m rest s fits behind order all =
      let from = with_driver side (left_with rest (stream side s).driver.queue) s in
      let left = driver-streams side (left_with rest (stream side s).driver.queue) s (record { messages = behind; order = order; marks = (all.0 side).driver.marks }) all in
      driver-ended side (size_of m) (delivered K cells (up_across side from) m from).state (delivered-streams K (up_across side from) m from fits.good left)

  serves-driver : (K : Behaviour) (side : Side) (ms : List (Message C)) (s : State C) → AllByRecursion (λ m. StandsOn stands_below m) ms → IsOrdered ms → AreStreams s → AreStreams (driver_serves K cells side ms s).state
  serves-driver K side [] s each order all = driver-streams side (record (stream side s).driver.queue { want_read = true }) s (record { messages = (all.0 side).driver.messages; order = (all.0 side).driver.order; marks = (all.0 side).driver.marks }) all
  serves-driver K side (m ∷ rest) s each order all =
      let kept = with_driver side (held_back (stream side s).driver.queue) s in
      let waits = driver-streams side (held_back (stream side s).driver.queue) s (record { messages = (all.0 side).driver.messages; order = (all.0 side).driver.order; marks = (all.0 side).driver.marks }) all in
      any-holds (λ t. AreStreams t.state) (is_open (stream (other side) s).opened) (is_stopped_across side m s) _ _ _
      waits (waits-good (other side) Up (driver_place (other side) kept) (band_of m) kept waits) (moved-driver K side m rest s each.0 each.1 order.1 all)

  pub turn-good : (K : Behaviour) (name : QueueName) (turn : Turn) (s : State C) → AreStreams s → AreStreams (turned K cells name turn s).state
  turn-good K name turn s all = at name.place (record s { enabled = without name s.enabled }) all
    where
      at : (place : Place) (s : State C) → AreStreams s → AreStreams (turned_at K cells place name turn s).state
      at Driver s all = serves-driver K name.side (stream name.side s).driver.queue.messages s (all.0 name.side).driver.messages (all.0 name.side).driver.order all
      at Head s all = all
      at (places.Module owner) s all = named-good K name turn s (place_named name.place (stream name.side s).modules) all
