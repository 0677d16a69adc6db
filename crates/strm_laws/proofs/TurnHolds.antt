-- What holds of a pair whatever stands on its drivers and whichever queues are enabled, behind deliveries, where writers wait, and behind
-- turns of modules' queues, holds behind each turn.
use Rattle.strm_laws.proofs.Prelude.{ℕ, Bool, true, false, cond, List, [], ◌∷◌, arith, ◌==◌, ◌&&◌, not}
use Rattle.strm_laws.specs.Prelude.{Turn, Place, Driver, QueueName, Side, Way, Up, Spot, Cells, Message, band_of, place_past, is_open, other}
use Rattle.strm_laws.specs.Prelude.{without, Queue, driver_of, enable_if, enable_some, is_none_left, left_with, relieves, size_of}
use Rattle.strm_types.specs.declared.names.Place.TheVariants.{Head}
use Rattle.strm_types.specs.declared.names.Place.TheVariants as places
use Rattle.strm_laws.specs.Behaviours.{Behaviour}
use Rattle.strm_laws.specs.Earlier.{before_driver, driver_place}
use Rattle.strm_laws.specs.ModuleTurns.{module_turned}
use Rattle.strm_laws.specs.Past.{writer_waits}
use Rattle.strm_laws.specs.Puts.{delivered}
use Rattle.strm_laws.specs.State.{State, stream}
use Rattle.strm_laws.specs.TurnOutcomes.{TurnOutcome}
use Rattle.strm_laws.specs.Turns.{driver_serves, held_back, is_stopped_across, moved_across, turned, turned_at, turned_queue, up_across, with_driver}
use Rattle.strm_laws.proofs.ModuleTurnEnds.{module_turned-holds, past-holds}
use Rattle.strm_laws.proofs.PutParts.{Stays, delivered-holds}

pub record Turns {C : Type 0} (K : Behaviour) (P : State C → Type 0) : Type 0 where
  pub drivers : (side : Side) (q : Queue C) (s : State C) → P s → P (with_driver side q s)
  pub named : (names : List QueueName) (s : State C) → P s → P (record s { enabled = names })
  pub given : (cells : Cells C) (to : Spot) (m : Message C) (s : State C) → P s → P (delivered K cells to m s).state
  pub waits : (side : Side) (way : Way) (at band : ℕ) (s : State C) → P s → P (writer_waits side way at band s)
  pub modules : (cells : Cells C) (name : QueueName) (turn : Turn) (s : State C) → P s → P (module_turned K cells name turn s).state

-- what stays so whatever stands on the drivers
pub turns-stay : {C : Type 0} (K : Behaviour) (P : State C → Type 0) → ((side : Side) (q : Queue C) (s : State C) → P s → P (with_driver side q s)) → Stays P → Turns K P
turns-stay K P drivers stays = record {
  drivers = drivers;
  named = stays.names;
  given = delivered-holds P K stays;
  waits = λ side way at band s holds. past-holds P stays side way band (place_past way at (stream side s).modules) s holds;
  modules = λ cells name turn s holds. module_turned-holds P stays K cells name turn s holds;
}

module _ {C : Type 0} where
  pub any-holds : (Holds : TurnOutcome C → Type 0) (opened stopped : Bool) (shut waits moves : TurnOutcome C) → Holds shut → Holds waits → Holds moves → Holds (cond (not opened) shut (cond stopped waits moves))
  any-holds Holds false stopped shut waits moves one two three = one
  any-holds Holds true true shut waits moves one two three = two
  any-holds Holds true false shut waits moves one two three = three

module _ {C : Type 0} (K : Behaviour) (P : State C → Type 0) (turns : Turns K P) where
  moved-holds : (cells : Cells C) (side : Side) (m : Message C) (rest : List (Message C)) (s : State C) → P s → P (moved_across K cells side m rest s).state
  moved-holds cells side m rest s holds =
      let from = with_driver side (left_with rest (stream side s).driver.queue) s in
      let went = (delivered K cells (up_across side from) m from).state in
      turns.named _ _ (turns.drivers side _ went (turns.given cells (up_across side from) m from (turns.drivers side (left_with rest (stream side s).driver.queue) s holds)))

  serves-hold : (cells : Cells C) (side : Side) (ms : List (Message C)) (s : State C) → P s → P (driver_serves K cells side ms s).state
  serves-hold cells side [] s holds = turns.drivers side (record (stream side s).driver.queue { want_read = true }) s holds
  serves-hold cells side (m ∷ rest) s holds =
      let kept = with_driver side (held_back (stream side s).driver.queue) s in
      let waits = turns.drivers side (held_back (stream side s).driver.queue) s holds in
      any-holds (λ t. P t.state) (is_open (stream (other side) s).opened) (is_stopped_across side m s) _ _ _
      waits (turns.waits (other side) Up (driver_place (other side) kept) (band_of m) kept waits) (moved-holds cells side m rest s holds)

  pub turn-holds : (cells : Cells C) (name : QueueName) (turn : Turn) (s : State C) → P s → P (turned K cells name turn s).state
  turn-holds cells name turn s holds = at name.place (record s { enabled = without name s.enabled }) (turns.named (without name s.enabled) s holds)
    where
      at : (place : Place) (s : State C) → P s → P (turned_at K cells place name turn s).state
      at Driver s holds = serves-hold cells name.side (stream name.side s).driver.queue.messages s holds
      at Head s holds = holds
      at (places.Module owner) s holds = turns.modules cells name turn s holds
