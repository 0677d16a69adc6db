-- A turn of a module's queue loses no cell, and behind it nothing of a turn is under way at any module.
use Rattle.strm_laws.proofs.Prelude.{ℕ, zero, suc, ◌≡◌, ◌+◌, ◌-◌, ◌*◌, Bool, true, false, cond, List, [], ◌∷◌, ◌++◌, refl, arith, ◌==◌, not}
use Rattle.strm_laws.proofs.Prelude.{slice_index_or, Option, None, Some, false≢true, carried-holds, in_turn-holds, either, each-side, set-all}
use Rattle.strm_laws.specs.Prelude.{Turn, Moved, Blocked, HOPS, Dir, QueueName, Side, Master, Slave, Asks, Spot, Cells, Acted, Carried, Parcel}
use Rattle.strm_laws.specs.Prelude.{carried, in_turn, Message, at_place, put_among, Queue, turn_ended, set}
use Rattle.std.specs.List.{AllByRecursion}
use Rattle.strm_types.specs.declared.spots.Asks.TheVariants as asked
use Rattle.strm_laws.specs.Behaviours.{Behaviour, MayTestOwn}
use Rattle.strm_laws.specs.Earlier.{places_of}
use Rattle.strm_laws.specs.Kept.{AreIdle, state_weight}
use Rattle.strm_laws.specs.LdtermWeights.{IgnoresMapping}
use Rattle.strm_laws.specs.ModuleTurns.{Calls, again_at, asked_turn, bytes_at, call_at, calls, made_below, module_called, module_turn_ended, module_turned, moved_on, moved_within, place_named, queue_ended, turned_named, turned_there, waits_there}
use Rattle.strm_laws.specs.Past.{has_room_past, writer_waits}
use Rattle.strm_laws.specs.Places.{CarryKeeps, weight_gone, weight_made}
use Rattle.strm_laws.specs.Puts.{earlier_at, noted, put_in}
use Rattle.strm_laws.specs.Stacked.{Standing, module_asks, module_puts, module_rests, modules_weight}
use Rattle.strm_laws.specs.State.{State, stream, with_stream}
use Rattle.strm_laws.specs.TurnOutcomes.{TurnOutcome, stayed_put}
use Rattle.strm_laws.proofs.Deliveries.{delivered-keeps}
use Rattle.strm_laws.proofs.DeliveryKeeps.{gone-append, in_turn-keeps, made-append}
use Rattle.strm_laws.proofs.Lawful.{IsReadyAt}
use Rattle.strm_laws.proofs.LawfulKinds.{lawful, puts-lawfully}
use Rattle.strm_laws.proofs.ModuleCalls.{OneIs, among-goes, among-keeps, among-rests, one-of-idle, one-puts}
use Rattle.strm_laws.proofs.ModulesHold.{OnBoth, books-good, puts-good}
use Rattle.strm_laws.proofs.ModulesIdle.{AllIdle, among-idle}
use Rattle.strm_laws.proofs.Past.{waits-idle, waits-keeps}
use Rattle.strm_laws.proofs.PutsKeep.{booked-keeps}
use Rattle.strm_laws.proofs.PutParts.{booked-holds}
use Rattle.strm_laws.proofs.QueueChanges.{changes-idle, changes-keep}
use Rattle.strm_laws.proofs.StreamWeights.{stream-weighs}

module _ {C : Type 0} where
  -- What holds of the modules of a side's stream in a turn there: on the other stream nothing of a turn is under way.
  abbrev OnOne : Side → (List (Standing C) → Type 0) → Side → List (Standing C) → Type 0
  OnOne Master On Master ps = On ps
  OnOne Master On Slave ps = AllIdle ps
  OnOne Slave On Master ps = AllIdle ps
  OnOne Slave On Slave ps = On ps

  abbrev InTurn : Side → (List (Standing C) → Type 0) → State C → Type 0
  InTurn side On s = OnBoth (OnOne side On) s

  -- nothing of a turn is under way, before it and behind it
  turn-of-idle : (side : Side) (On : List (Standing C) → Type 0) (s : State C) → (AllIdle (stream side s).modules → On (stream side s).modules) → AreIdle s → InTurn side On s
  turn-of-idle Master On s on idle = each-side (λ of t. OnOne Master On of t.modules) s.ends (on (idle Master)) (idle Slave)
  turn-of-idle Slave On s on idle = each-side (λ of t. OnOne Slave On of t.modules) s.ends (idle Master) (on (idle Slave))

  idle-of-turn : (side : Side) (s : State C) → InTurn side AllIdle s → AreIdle s
  idle-of-turn Master s both = each-side (λ of t. AllIdle t.modules) s.ends (both Master) (both Slave)
  idle-of-turn Slave s both = each-side (λ of t. AllIdle t.modules) s.ends (both Master) (both Slave)

  -- the modules of the stream of the turn
  turn-on : (side : Side) (On : List (Standing C) → Type 0) (s : State C) → InTurn side On s → On (stream side s).modules
  turn-on Master On s both = both Master
  turn-on Slave On s both = both Slave

  -- other modules stand there
  turn-with : (side : Side) (Was On : List (Standing C) → Type 0) (ps : List (Standing C)) (names : List QueueName) (s : State C) → InTurn side Was s → On ps
      → InTurn side On (record (with_stream side (record (stream side s) { modules = ps }) s) { enabled = names })
  turn-with Master Was On ps names s both on = each-side (λ of t. OnOne Master On of t.modules) (set Master (record (stream Master s) { modules = ps }) s.ends) on (both Slave)
  turn-with Slave Was On ps names s both on = each-side (λ of t. OnOne Slave On of t.modules) (set Slave (record (stream Slave s) { modules = ps }) s.ends) (both Master) on

  -- what is sent is delivered
  module _ (K : Behaviour) (cells : Cells C) where
    -- what a put at one of several modules keeps
    abbrev PutsStay : (List (Standing C) → Type 0) → Type 0
    PutsStay On = (made i : ℕ) (here : Spot) (m : Message C) (ps : List (Standing C)) → On ps → On (put_among (module_puts K cells made) i here m ps).state

    on-one-puts : (side : Side) (On : List (Standing C) → Type 0) → PutsStay On
        → (of : Side) (made i : ℕ) (here : Spot) (m : Message C) (ps : List (Standing C)) → OnOne side On of ps → OnOne side On of (put_among (module_puts K cells made) i here m ps).state
    on-one-puts Master On stays Master made i here m ps on = stays made i here m ps on
    on-one-puts Master On stays Slave made i here m ps on = among-idle K cells made i here m ps on
    on-one-puts Slave On stays Master made i here m ps on = among-idle K cells made i here m ps on
    on-one-puts Slave On stays Slave made i here m ps on = stays made i here m ps on

    turn-sent : (side : Side) (On : List (Standing C) → Type 0) → PutsStay On
        → (sent : List (Parcel C)) (s : State C) → InTurn side On s → InTurn side On (in_turn (carried (put_in K cells) HOPS) sent s).state
    turn-sent side On stays sent s both =
        let puts = puts-good (OnOne side On) K cells (on-one-puts side On stays) in
        in_turn-holds (InTurn side On) (carried (put_in K cells) HOPS) (carried-holds (InTurn side On) (put_in K cells) puts HOPS) sent s both

  -- the queues that are enabled behind a call, and what stands behind it before it is booked
  abbrev names_behind : Spot → Acted C (List (Standing C)) → State C → List QueueName
  names_behind here t s = noted here.side (slice_index_or (places_of (stream here.side s).modules) (here.at - 1) None) (earlier_at here.side here.at s) t.notes s.enabled

  abbrev stands_behind : Spot → Acted C (List (Standing C)) → State C → State C
  stands_behind here t s =
      let on = stream here.side s in
      record (with_stream here.side (record on { modules = t.state }) s) { enabled = names_behind here t s }

  -- the end of a turn
  ended-messages : (took : Bool) (q : Queue C) → (turn_ended took q).messages ≡ q.messages
  ended-messages true q = refl
  ended-messages false q = refl

  ended-idle : (here : Spot) (took : Bool) (s : State C) → AreIdle s → AreIdle (with_stream here.side (queue_ended here took (stream here.side s)) s)
  ended-idle here took s idle =
      let on = queue_ended here took (stream here.side s) in
      set-all (λ of t. AllIdle t.modules) here.side on s.ends (changes-idle (turn_ended took) here.way (here.at - 1) (stream here.side s).modules (idle here.side)) idle

module _ {C : Type 0} (cells : Cells C) (here : Spot) where
  -- the module whose queue has the turn is ready for a call
  abbrev HasCall : Bool → ℕ → List (Standing C) → Type 0
  HasCall again left ps = OneIs (λ l. IsReadyAt again here.way left l) (here.at - 1) ps

  call-stays : (K : Behaviour) (again : Bool) (left : ℕ) → PutsStay K cells (HasCall again left)
  call-stays K again left made i to m ps one =
      one-puts K cells made (λ l. IsReadyAt again here.way left l) (λ to m l. (puts-lawfully K l cells made to m).ready again here.way left)
      (here.at - 1) i to m ps one

  -- what a call leads to, with what it sent
  abbrev called_out : Behaviour → Bool → ℕ → State C → Carried C (State C)
  called_out K again left s =
      let t = module_called K cells here again left s in
      in_turn (carried (put_in K cells) HOPS) t.sent t.state

  module _ (K : Behaviour) (again : Bool) (left : ℕ) (s : State C) (turn : InTurn here.side (HasCall again left) s) where
    abbrev on_it : List (Standing C)
    on_it = (stream here.side s).modules

    abbrev call : Acted C (List (Standing C))
    call = call_at K cells here (made_below here.side s) again left on_it

    called-turn : (On : List (Standing C) → Type 0) → On call.state → InTurn here.side On (module_called K cells here again left s).state
    called-turn On on = booked-holds (OnBoth (OnOne here.side On)) (books-good (OnOne here.side On)) call.gone (stands_behind here call s) (turn-with here.side (HasCall again left) On call.state (names_behind here call s) s turn on)

    out-goes : again_at K cells here (made_below here.side s) again left on_it ≡ true
        → InTurn here.side (HasCall true (left - bytes_at K cells here (made_below here.side s) again left on_it)) (called_out K again left s).state
    out-goes works =
        let t = module_called K cells here again left s in
        let less = left - bytes_at K cells here (made_below here.side s) again left on_it in
        turn-sent K cells here.side (HasCall true less) (call-stays K true less) t.sent t.state
        (called-turn (HasCall true less) (among-goes K cells here (made_below here.side s) again left (here.at - 1) on_it (turn-on here.side (HasCall again left) s turn) works))

    out-rests : again_at K cells here (made_below here.side s) again left on_it ≡ false
        → InTurn here.side AllIdle (called_out K again left s).state
    out-rests over =
        let t = module_called K cells here again left s in
        turn-sent K cells here.side AllIdle (among-idle K cells) t.sent t.state
        (called-turn AllIdle (among-rests K cells here (made_below here.side s) again left (here.at - 1) on_it (turn-on here.side (HasCall again left) s turn) over))

  -- where nothing of a turn is under way, one may begin
  begun : (left : ℕ) (s : State C) → AreIdle s → InTurn here.side (HasCall false left) s
  begun left s idle =
      turn-of-idle here.side (HasCall false left) s
      (one-of-idle (λ l. IsReadyAt false here.way left l) (λ l. (lawful l).ready here.way left) (here.at - 1) (stream here.side s).modules) idle

  -- calls, up to the end of the turn
  calls-rest : (K : Behaviour) (n : ℕ) (again : Bool) (left : ℕ) (s : State C) → InTurn here.side (HasCall again left) s → let v = calls K cells here n again left s in v.ended ≡ true → InTurn here.side AllIdle v.state
  calls-rest K zero again left s turn ended = absurd (false≢true ended)
  calls-rest K (suc more) again left s turn ended = at (again_at K cells here made again left ps) refl (λ goes. calls-rest K more true (left - bytes_at K cells here made again left ps) (called_out K again left s).state goes) ended
    where
      ps : List (Standing C)
      ps = (stream here.side s).modules

      made : ℕ
      made = made_below here.side s

      less : ℕ
      less = left - bytes_at K cells here made again left ps

      at : (goes : Bool) → again_at K cells here made again left ps ≡ goes
          → (InTurn here.side (HasCall true less) (called_out K again left s).state → let v = calls K cells here more true less (called_out K again left s).state in v.ended ≡ true → InTurn here.side AllIdle v.state)
          → (let t = module_called K cells here again left s in
          let u = called_out K again left s in
          let v = calls K cells here more true less u.state in
          let bytes = bytes_at K cells here made again left ps in
          let w : Calls C = cond goes (record { state = v.state; gone = t.gone ++ u.gone ++ v.gone; bytes = bytes + v.bytes; ended = v.ended }) (record { state = u.state; gone = t.gone ++ u.gone; bytes = bytes; ended = true }) in
          w.ended ≡ true → InTurn here.side AllIdle w.state)
      at true works behind ended = behind (out-goes K again left s turn works) ended
      at false over behind ended = out-rests K again left s turn over

  abbrev Rests : TurnOutcome C → Type 0
  Rests t = AreIdle t.state

  moved-rests : (K : Behaviour) (name : QueueName) (bytes : ℕ) (s : State C) → AreIdle s → Rests (moved_on K cells here name bytes s)
  moved-rests K name bytes s idle = at t.ended (λ ended. idle-of-turn here.side t.state (calls-rest K (3 * bytes + 1) false bytes s (begun bytes s idle) ended))
    where
      t : Calls C
      t = calls K cells here (3 * bytes + 1) false bytes s

      at : (ended : Bool) → (ended ≡ true → AreIdle t.state) → Rests (cond ended (record { turn = Moved t.bytes; state = module_turn_ended name here (not (t.bytes == 0)) t.state; gone = t.gone }) (stayed_put Blocked s))
      at true behind = ended-idle here (not (t.bytes == 0)) t.state (behind refl)
      at false behind = idle

  asked-rests : (K : Behaviour) (asks : Asks) (name : QueueName) (turn : Turn) (s : State C) → AreIdle s
      → Rests (asked_turn K cells here asks name turn s)
  asked-rests K asked.Empty name turn s idle = ended-idle here false s idle
  asked-rests K asked.Held name turn s idle = ended-idle here false s idle
  asked-rests K asked.Free name turn s idle = moved-rests K name _ s idle
  asked-rests K (asked.Room band) name turn s idle =
      let waiting = writer_waits here.side here.way here.at band.0 s in
      either Rests (has_room_past here.side here.way here.at band.0 s) (moved_within K cells here name turn s) (waits_there band.0 here s) (moved-rests K name _ s idle)
      (ended-idle here false waiting (waits-idle here.side here.way here.at band.0 s idle))

  there-rests : (K : Behaviour) (name : QueueName) (turn : Turn) (s : State C) → AreIdle s → Rests (turned_there K cells here name turn s)
  there-rests K name turn s idle =
      let ps = (stream here.side s).modules in
      let asks = at_place (module_asks K cells here.way) asked.Empty here.at ps in
      either Rests (at_place module_rests false here.at ps) (asked_turn K cells here asks name turn s) (stayed_put Blocked s) (asked-rests K asks name turn s idle) idle

module _ {C : Type 0} where
  pub module_turned-rests : (K : Behaviour) (cells : Cells C) (name : QueueName) (turn : Turn) (s : State C) → AreIdle s → AreIdle (module_turned K cells name turn s).state
  module_turned-rests K cells name turn s idle = named (place_named name.place (stream name.side s).modules)
    where
      named : (o : Option ℕ) → AreIdle (turned_named K cells name turn s o).state
      named None = idle
      named (Some at) = there-rests cells (record { side = name.side; at = at; way = name.way }) K name turn s idle

-- no cell is lost, and none made that isn't told
module _ {C : Type 0} (p : Dir → C → Bool) where
  -- other modules stand on a side's stream
  with-keeps : (side : Side) (ps : List (Standing C)) (names : List QueueName) (s : State C)
      → state_weight p (record (with_stream side (record (stream side s) { modules = ps }) s) { enabled = names }) + modules_weight p side (stream side s).modules ≡ state_weight p s + modules_weight p side ps
  with-keeps side ps names s = omega (arith, stream-weighs p side (record (stream side s) { modules = ps }) s)

  ended-keeps : (here : Spot) (took : Bool) (s : State C) → state_weight p (with_stream here.side (queue_ended here took (stream here.side s)) s) ≡ state_weight p s
  ended-keeps here took s =
      let ps = (stream here.side s).modules in
      omega (arith, with-keeps here.side (queue_ended here took (stream here.side s)).modules s.enabled s, changes-keep (turn_ended took) p here.side (ended-messages took) here.way (here.at - 1) ps)

  -- what was sent is delivered
  carries : (K : Behaviour) (cells : Cells C) → MayTestOwn K cells p → (sent : List (Parcel C))
      → AllByRecursion (CarryKeeps p (state_weight p) (carried (put_in K cells) HOPS)) sent
  carries K cells tests [] = tt
  carries K cells tests (q ∷ sent) = (delivered-keeps K cells p tests q.to q.message, carries K cells tests sent)

  module _ (cells : Cells C) (ignores : IgnoresMapping cells p) (here : Spot) where
    -- a call, with what it sent
    out-keeps : (K : Behaviour) (again : Bool) (left : ℕ) (s : State C) → InTurn here.side (HasCall cells here again left) s → let t = module_called K cells here again left s in let u = called_out cells here K again left s in
        state_weight p u.state + weight_gone p (t.gone ++ u.gone) ≡ state_weight p s + weight_made p (t.gone ++ u.gone)
    out-keeps K again left s turn =
        let ps = (stream here.side s).modules in
        let made = made_below here.side s in
        let t = module_called K cells here again left s in
        let u = called_out cells here K again left s in
        let acted = call_at K cells here made again left ps in
        let one = turn-on here.side (HasCall cells here again left) s turn in
        omega (
          arith,
          among-keeps K cells here made again left p ignores (here.at - 1) ps one,
          booked-keeps p acted.gone (stands_behind here acted s),
          with-keeps here.side acted.state (names_behind here acted s) s,
          in_turn-keeps p (state_weight p) (carried (put_in K cells) HOPS) t.sent (carries K cells (λ changes. ignores) t.sent) t.state,
          gone-append p t.gone u.gone,
          made-append p t.gone u.gone,
        )

    calls-keep : (K : Behaviour) (n : ℕ) (again : Bool) (left : ℕ) (s : State C) → InTurn here.side (HasCall cells here again left) s → let v = calls K cells here n again left s in
        state_weight p v.state + weight_gone p v.gone ≡ state_weight p s + weight_made p v.gone
    calls-keep K zero again left s turn = omega arith
    calls-keep K (suc more) again left s turn = at (again_at K cells here made again left ps) refl (λ goes. calls-keep K more true (left - bytes_at K cells here made again left ps) (called_out cells here K again left s).state goes)
      where
        ps : List (Standing C)
        ps = (stream here.side s).modules

        made : ℕ
        made = made_below here.side s

        less : ℕ
        less = left - bytes_at K cells here made again left ps

        at : (goes : Bool) → again_at K cells here made again left ps ≡ goes
            → (let u = called_out cells here K again left s in
            InTurn here.side (HasCall cells here true less) u.state → let v = calls K cells here more true less u.state in state_weight p v.state + weight_gone p v.gone ≡ state_weight p u.state + weight_made p v.gone)
            → (let t = module_called K cells here again left s in
            let u = called_out cells here K again left s in
            let bytes = bytes_at K cells here made again left ps in
            let v = calls K cells here more true (left - bytes) u.state in
            let w : Calls C = cond goes (record { state = v.state; gone = t.gone ++ u.gone ++ v.gone; bytes = bytes + v.bytes; ended = v.ended }) (record { state = u.state; gone = t.gone ++ u.gone; bytes = bytes; ended = true }) in
            state_weight p w.state + weight_gone p w.gone ≡ state_weight p s + weight_made p w.gone)
        at true works behind =
            let t = module_called K cells here again left s in
            let u = called_out cells here K again left s in
            let v = calls K cells here more true less u.state in
            omega (arith, out-keeps K again left s turn, behind (out-goes cells here K again left s turn works), gone-append p (t.gone ++ u.gone) v.gone, made-append p (t.gone ++ u.gone) v.gone)
        at false over behind = out-keeps K again left s turn

    -- a turn in a pair that had so many cells
    abbrev Keeps : ℕ → TurnOutcome C → Type 0
    Keeps n t = state_weight p t.state + weight_gone p t.gone ≡ n + weight_made p t.gone

    moved-keeps : (K : Behaviour) (name : QueueName) (bytes : ℕ) (s : State C) → AreIdle s
        → Keeps (state_weight p s) (moved_on K cells here name bytes s)
    moved-keeps K name bytes s idle =
        let t = calls K cells here (3 * bytes + 1) false bytes s in
        let kept = calls-keep K (3 * bytes + 1) false bytes s (begun cells here bytes s idle) in
        either (Keeps (state_weight p s)) t.ended _ (stayed_put Blocked s) (omega (arith, kept, ended-keeps here (not (t.bytes == 0)) t.state)) (omega arith)

    asked-keeps : (K : Behaviour) (asks : Asks) (name : QueueName) (turn : Turn) (s : State C) → AreIdle s → Keeps (state_weight p s) (asked_turn K cells here asks name turn s)
    asked-keeps K asked.Empty name turn s idle = omega (arith, ended-keeps here false s)
    asked-keeps K asked.Held name turn s idle = omega (arith, ended-keeps here false s)
    asked-keeps K asked.Free name turn s idle = moved-keeps K name _ s idle
    asked-keeps K (asked.Room band) name turn s idle =
        let waiting = writer_waits here.side here.way here.at band.0 s in
        either (Keeps (state_weight p s)) (has_room_past here.side here.way here.at band.0 s) (moved_within K cells here name turn s) (waits_there band.0 here s) (moved-keeps K name _ s idle)
        (omega (arith, ended-keeps here false waiting, waits-keeps p here.side here.way here.at band.0 s))

    there-keeps : (K : Behaviour) (name : QueueName) (turn : Turn) (s : State C) → AreIdle s
        → Keeps (state_weight p s) (turned_there K cells here name turn s)
    there-keeps K name turn s idle =
        let ps = (stream here.side s).modules in
        let asks = at_place (module_asks K cells here.way) asked.Empty here.at ps in
        either (Keeps (state_weight p s)) (at_place module_rests false here.at ps) (asked_turn K cells here asks name turn s) (stayed_put Blocked s) (asked-keeps K asks name turn s idle) (omega arith)

  pub module_turned-keeps : (K : Behaviour) (cells : Cells C) → IgnoresMapping cells p → (name : QueueName) (turn : Turn) (s : State C) → AreIdle s → let t = module_turned K cells name turn s in
      state_weight p t.state + weight_gone p t.gone ≡ state_weight p s + weight_made p t.gone
  module_turned-keeps K cells ignores name turn s idle = named (place_named name.place (stream name.side s).modules)
    where
      named : (o : Option ℕ) → let t = turned_named K cells name turn s o in state_weight p t.state + weight_gone p t.gone ≡ state_weight p s + weight_made p t.gone
      named None = omega arith
      named (Some at) = there-keeps cells ignores (record { side = name.side; at = at; way = name.way }) K name turn s idle
