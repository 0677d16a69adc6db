-- What each step books: a call what it writes, a turn what is told as made, and nothing else.
use Rattle.strm_laws.proofs.Prelude.{ℕ, zero, suc, ◌+◌, ◌-◌, ◌*◌, Bool, true, false, cond, List, [], ◌∷◌, ◌++◌, refl, ◌==◌, not, Option, None, Some}
use Rattle.strm_laws.specs.Prelude.{Turn, Blocked, Idle, HOPS, Place, Driver, QueueName, Side, Way, Asks, Spot, Cells, Fate, carried, in_turn}
use Rattle.strm_laws.specs.Prelude.{Message, size_of, at_place, act_among, is_open, other, without, Queue, left_with}
use Rattle.strm_types.specs.declared.names.Place.TheVariants.{Head}
use Rattle.strm_types.specs.declared.names.Place.TheVariants as places
use Rattle.strm_types.specs.declared.spots.Asks.TheVariants as asked
use Rattle.strm_laws.specs.Behaviours.{Behaviour}
use Rattle.strm_laws.specs.ModuleTurns.{Calls, again_at, asked_turn, bytes_at, call_at, calls, made_below, module_called, module_turn_ended, module_turned, moved_on, moved_within, place_named, stayed_at, turned_named, turned_there, waits_there}
use Rattle.strm_laws.specs.Past.{has_room_past, writer_waits}
use Rattle.strm_laws.specs.Puts.{delivered, put_in}
use Rattle.strm_laws.specs.Stacked.{Standing, module_asks, module_rests, module_serves}
use Rattle.strm_laws.specs.State.{State, stream}
use Rattle.strm_laws.specs.TurnOutcomes.{TurnOutcome, stayed_put}
use Rattle.strm_laws.specs.Turns.{blocked_across, driver_serves, held_back, is_stopped_across, moved_across, turn_ended, turned, turned_at, up_across, with_driver}
use Rattle.strm_laws.proofs.InOrder.{BooksMade, books-both}
use Rattle.strm_laws.proofs.PutsBook.{SameBooks, acted-books, booked-before, booked-behind, delivered-books, nothing-booked, sent-books}
use Rattle.strm_laws.proofs.TurnHolds.{any-holds}
use Rattle.strm_laws.proofs.TurnOrder.{TurnOrder, order-none}
use Rattle.strm_laws.proofs.LawfulKinds.{calls-lawfully}

module _ {C : Type 0} where
  pub waits-books : (side : Side) (way : Way) (at band : ℕ) (s : State C) → SameBooks s (writer_waits side way at band s)
  waits-books side way at band s = refl

module _ {C : Type 0} (cells : Cells C) where
  abbrev Books : State C → List (Fate C) → State C → Type 0
  Books s told t = BooksMade cells s told t

  module _ (here : Spot) where
    acts-order : (K : Behaviour) (made : ℕ) (again : Bool) (left : ℕ) (i : ℕ) (ps : List (Standing C)) → TurnOrder cells here.side made (act_among (λ q. (module_serves K cells here made again (Some left) q).acted) i ps).gone
    acts-order K made again left i [] = order-none cells here.side made [] refl
    acts-order K made again left zero (q ∷ ps) = (calls-lawfully K q cells here made again).order (Some left)
    acts-order K made again left (suc i) (q ∷ ps) = acts-order K made again left i ps

    called-books : (K : Behaviour) (again : Bool) (left : ℕ) (s : State C) → let t = module_called K cells here again left s in Books s t.gone t.state
    called-books K again left s =
        let ps = (stream here.side s).modules in
        let made = made_below here.side s in
        acted-books cells here.side here (call_at K cells here made again left ps) s (acts-order K made again left (here.at - 1) ps)

    calls-books : (K : Behaviour) (n : ℕ) (again : Bool) (left : ℕ) (s : State C)
        → let v = calls K cells here n again left s in Books s v.gone v.state
    calls-books K zero again left s = nothing-booked cells s s refl
    calls-books K (suc more) again left s =
        let ps = (stream here.side s).modules in
        let made = made_below here.side s in
        let t = module_called K cells here again left s in
        let u = in_turn (carried (put_in K cells) HOPS) t.sent t.state in
        let less = left - bytes_at K cells here made again left ps in
        let v = calls K cells here more true less u.state in
        let out = books-both cells s t.state u.state t.gone u.gone (called-books K again left s) (sent-books cells K t.sent t.state) in
        either-calls (again_at K cells here made again left ps) _ _ (books-both cells s u.state v.state (t.gone ++ u.gone) v.gone out (calls-books K more true less u.state)) out
      where
        either-calls : (b : Bool) (one another : Calls C) → Books s one.gone one.state → Books s another.gone another.state → Books s (cond b one another).gone (cond b one another).state
        either-calls true one another first second = first
        either-calls false one another first second = second

    -- a turn
    abbrev TurnBooks : State C → TurnOutcome C → Type 0
    TurnBooks s t = Books s t.gone t.state

    either-turns : (s : State C) (b : Bool) (one another : TurnOutcome C) → TurnBooks s one → TurnBooks s another → TurnBooks s (cond b one another)
    either-turns s true one another first second = first
    either-turns s false one another first second = second

    stays-books : (turn : Turn) (s : State C) → TurnBooks s (stayed_put turn s)
    stays-books turn s = nothing-booked cells s s refl

    stayed-books : (turn : Turn) (s : State C) → TurnBooks s (stayed_at turn here s)
    stayed-books turn s = nothing-booked cells s _ refl

    pub ended-books : (name : QueueName) (took : Bool) (s : State C) → SameBooks s (module_turn_ended name here took s)
    ended-books name took s = refl

    moved-books : (K : Behaviour) (name : QueueName) (bytes : ℕ) (s : State C) → TurnBooks s (moved_on K cells here name bytes s)
    moved-books K name bytes s =
        let t = calls K cells here (3 * bytes + 1) false bytes s in
        either-turns s t.ended _ (stayed_put Blocked s)
        (booked-behind cells s t.state (module_turn_ended name here (not (t.bytes == 0)) t.state) t.gone (calls-books K (3 * bytes + 1) false bytes s) (ended-books name (not (t.bytes == 0)) t.state))
        (stays-books Blocked s)

    asked-books : (K : Behaviour) (asks : Asks) (name : QueueName) (turn : Turn) (s : State C)
        → TurnBooks s (asked_turn K cells here asks name turn s)
    asked-books K asked.Empty name turn s = stayed-books Idle s
    asked-books K asked.Held name turn s = stayed-books Blocked s
    asked-books K asked.Free name turn s = moved-books K name _ s
    asked-books K (asked.Room band) name turn s =
        let waits = writer_waits here.side here.way here.at band.0 s in
        either-turns s (has_room_past here.side here.way here.at band.0 s) (moved_within K cells here name turn s) (waits_there band.0 here s) (moved-books K name _ s)
        (booked-before cells s waits _ [] (waits-books here.side here.way here.at band.0 s) (stayed-books Blocked waits))

    there-books : (K : Behaviour) (name : QueueName) (turn : Turn) (s : State C) → TurnBooks s (turned_there K cells here name turn s)
    there-books K name turn s =
        let ps = (stream here.side s).modules in
        let asks = at_place (module_asks K cells here.way) asked.Empty here.at ps in
        either-turns s (at_place module_rests false here.at ps) (asked_turn K cells here asks name turn s) (stayed_put Blocked s) (asked-books K asks name turn s) (stays-books Blocked s)

  pub module-books : (K : Behaviour) (name : QueueName) (turn : Turn) (s : State C)
      → let t = module_turned K cells name turn s in Books s t.gone t.state
  module-books K name turn s = named (place_named name.place (stream name.side s).modules)
    where
      named : (o : Option ℕ) → let t = turned_named K cells name turn s o in Books s t.gone t.state
      named None = nothing-booked cells s s refl
      named (Some at) = there-books (record { side = name.side; at = at; way = name.way }) K name turn s

  -- a driver's turn
  pub driver-books : (side : Side) (q : Queue C) (s : State C) → SameBooks s (with_driver side q s)
  driver-books side q s = refl

  pub end-books : (side : Side) (size : ℕ) (s : State C) → SameBooks s (turn_ended side size s)
  end-books side size s = refl

  across-books : (K : Behaviour) (side : Side) (m : Message C) (rest : List (Message C)) (s : State C) → let t = moved_across K cells side m rest s in Books s t.gone t.state
  across-books K side m rest s =
      let from = with_driver side (left_with rest (stream side s).driver.queue) s in
      let t = delivered K cells (up_across side from) m from in
      booked-before cells s from _ t.gone (driver-books side (left_with rest (stream side s).driver.queue) s)
      (booked-behind cells from t.state (turn_ended side (size_of m) t.state) t.gone (delivered-books cells K (up_across side from) m from) (end-books side (size_of m) t.state))

  pub serves-books : (K : Behaviour) (side : Side) (ms : List (Message C)) (s : State C)
      → let t = driver_serves K cells side ms s in Books s t.gone t.state
  serves-books K side [] s = nothing-booked cells s _ (driver-books side (record (stream side s).driver.queue { want_read = true }) s)
  serves-books K side (m ∷ rest) s =
      let kept = with_driver side (held_back (stream side s).driver.queue) s in
      any-holds (λ t. Books s t.gone t.state) (is_open (stream (other side) s).opened) (is_stopped_across side m s) _ _ _
      (nothing-booked cells s kept refl)
      (nothing-booked cells s (blocked_across side m kept) refl)
      (across-books K side m rest s)

  pub turn-books : (K : Behaviour) (name : QueueName) (turn : Turn) (s : State C) → let t = turned K cells name turn s in Books s t.gone t.state
  turn-books K name turn s = at name.place (record s { enabled = without name s.enabled }) refl
    where
      at : (place : Place) (t : State C) → SameBooks s t → let u = turned_at K cells place name turn t in Books s u.gone u.state
      at Driver t same = booked-before cells s t _ _ same (serves-books K name.side (stream name.side t).driver.queue.messages t)
      at Head t same = nothing-booked cells s t same
      at (places.Module owner) t same = booked-before cells s t _ _ same (module-books K name turn t)
