-- A turn of a module's queue keeps what stays so whatever modules of the same names stand, whatever is made, and at the puts at heads and drivers.
use Rattle.strm_laws.proofs.Prelude.{ℕ, zero, suc, Bool, true, false, cond, arith, ◌==◌, not, Option, None, Some}
use Rattle.strm_laws.specs.Prelude.{Turn, HOPS, QueueName, Side, Way, Asks, Spot, Cells, carried, in_turn, at_place, place_past, enable_if}
use Rattle.strm_laws.specs.Prelude.{enable_some}
use Rattle.strm_laws.specs.Prelude.{end_relieves, has_more, turn_ended, with_waiting}
use Rattle.std.specs.Prelude.{◌-◌, ◌*◌, ◌+◌}
use Rattle.strm_types.specs.declared.spots.Asks.TheVariants as asked
use Rattle.strm_laws.specs.Behaviours.{Behaviour}
use Rattle.strm_laws.specs.ModuleTurns.{Calls, again_at, asked_turn, bytes_at, call_at, calls, made_below, module_called, module_turned, moved_on, moved_within, place_named, queue_ended, turned_named, turned_there, waits_there}
use Rattle.strm_laws.specs.Past.{has_room_past, waits_on, writer_waits}
use Rattle.strm_laws.specs.Puts.{earlier_at, put_in}
use Rattle.strm_laws.specs.Stacked.{module_asks, module_rests}
use Rattle.strm_laws.specs.State.{State, stream, with_stream}
use Rattle.strm_laws.specs.TurnOutcomes.{TurnOutcome}
use Rattle.strm_laws.proofs.PutParts.{Stays, acted-holds, sent-holds}
use Rattle.strm_laws.proofs.SameNames.{queue-names, serve-names}

module _ {C : Type 0} (P : State C → Type 0) (stays : Stays P) where
  outcome-holds : (b : Bool) (one another : TurnOutcome C) → P one.state → P another.state → P (cond b one another).state
  outcome-holds true one another first second = first
  outcome-holds false one another first second = second

  calls-either : (b : Bool) (one another : Calls C) → P one.state → P another.state → P (cond b one another).state
  calls-either true one another first second = first
  calls-either false one another first second = second

  ended-holds : (here : Spot) (took : Bool) (s : State C) → P s → P (with_stream here.side (queue_ended here took (stream here.side s)) s)
  ended-holds here took s holds =
      let t = stream here.side s in
      stays.modules here.side (queue_ended here took t).modules s (queue-names here.way (turn_ended took) (here.at - 1) t.modules) holds

  pub past-holds : (side : Side) (way : Way) (band : ℕ) (o : Option ℕ) (s : State C) → P s → P (with_stream side (waits_on way band o (stream side s)) s)
  past-holds side way band None s holds = stays.waits side way band s holds
  past-holds side way band (Some place) s holds =
      let t = stream side s in
      stays.modules side (waits_on way band (Some place) t).modules s (queue-names way (with_waiting band) (place - 1) t.modules) holds

  module _ (K : Behaviour) (cells : Cells C) (here : Spot) where
    calls-hold : (n : ℕ) (again : Bool) (left : ℕ) (s : State C) → P s → P (calls K cells here n again left s).state
    calls-hold zero again left s holds = holds
    calls-hold (suc more) again left s holds =
        let ps = (stream here.side s).modules in
        let made = made_below here.side s in
        let t = module_called K cells here again left s in
        let u = in_turn (carried (put_in K cells) HOPS) t.sent t.state in
        let acted = call_at K cells here made again left ps in
        let same = serve-names K cells here made again (Some left) (here.at - 1) ps in
        let sent = sent-holds P K stays cells t.sent t.state
        (acted-holds P stays.names stays.books here acted s (stays.modules here.side acted.state s same holds)) in
        calls-either (again_at K cells here made again left ps) _ _ (calls-hold more true (left - bytes_at K cells here made again left ps) u.state sent) sent

    moved-holds : (name : QueueName) (bytes : ℕ) (s : State C) → P s → P (moved_on K cells here name bytes s).state
    moved-holds name bytes s holds =
        let t = calls K cells here (3 * bytes + 1) false bytes s in
        let behind = calls-hold (3 * bytes + 1) false bytes s holds in
        let took = not (t.bytes == 0) in
        outcome-holds t.ended _ _ (stays.names _ _ (ended-holds here took t.state behind)) holds

    asked-holds : (asks : Asks) (name : QueueName) (turn : Turn) (s : State C) → P s → P (asked_turn K cells here asks name turn s).state
    asked-holds asked.Empty name turn s holds = ended-holds here false s holds
    asked-holds asked.Held name turn s holds = ended-holds here false s holds
    asked-holds asked.Free name turn s holds = moved-holds name _ s holds
    asked-holds (asked.Room band) name turn s holds =
        let on = stream here.side s in
        let waiting = writer_waits here.side here.way here.at band.0 s in
        outcome-holds (has_room_past here.side here.way here.at band.0 s) (moved_within K cells here name turn s) (waits_there band.0 here s) (moved-holds name _ s holds)
        (ended-holds here false waiting (past-holds here.side here.way band.0 (place_past here.way here.at on.modules) s holds))

    there-holds : (name : QueueName) (turn : Turn) (s : State C) → P s → P (turned_there K cells here name turn s).state
    there-holds name turn s holds =
        let ps = (stream here.side s).modules in
        outcome-holds (at_place module_rests false here.at ps) _ _ (asked-holds (at_place (module_asks K cells here.way) asked.Empty here.at ps) name turn s holds) holds

  named-holds : (K : Behaviour) (cells : Cells C) (name : QueueName) (turn : Turn) (s : State C) (o : Option ℕ) → P s
      → P (turned_named K cells name turn s o).state
  named-holds K cells name turn s None holds = holds
  named-holds K cells name turn s (Some at) holds = there-holds K cells (record { side = name.side; at = at; way = name.way }) name turn s holds

  -- whatever stays so, stays behind a turn
  pub module_turned-holds : (K : Behaviour) (cells : Cells C) (name : QueueName) (turn : Turn) (s : State C) → P s
      → P (module_turned K cells name turn s).state
  module_turned-holds K cells name turn s holds = named-holds K cells name turn s (place_named name.place (stream name.side s).modules) holds
