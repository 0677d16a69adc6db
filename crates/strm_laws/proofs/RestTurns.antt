-- A turn of a queue leaves fewer moves, or no more of them and only its own queue less enabled.
use Rattle.strm_laws.proofs.Prelude.{ℕ, zero, suc, ◌≡◌, ◌≤◌, ◌<◌, ◌+◌, ◌-◌, ◌*◌, ◌⊎◌, inl, inr, Bool, true, false, cond, List, [], ◌∷◌, ◌++◌, map}
use Rattle.strm_laws.proofs.Prelude.{refl, sym, ap, subst, ◌∙◌, arith, ◌&&◌, ◌==◌, not, max, min, sum_by, slice_index_or, Option, None, Some, is_some}
use Rattle.strm_laws.proofs.Prelude.{option_map, sum_by-cons, carried-holds, in_turn-holds, either, false≢true}
use Rattle.strm_laws.specs.Prelude.{Turn, Moved, Blocked, Idle, HOPS, QueueName, Side, Way, Up, Down, Asks, Spot, asked_first, ldterm_asks, Cells}
use Rattle.strm_laws.specs.Prelude.{Acted, carried, in_turn, disciplined, Answered, Begun, Between, Discipline as TheLdterm, Stage, is_between}
use Rattle.strm_laws.specs.Prelude.{queue_at, Message, band_of, size_of, at_place, place_past, with_waiting, QueuePair, messages_at, pair_changed}
use Rattle.strm_laws.specs.Prelude.{queue_changed, stood, act_among, change_among, have_queues, is_open, other, output_serves, Queue, first_size}
use Rattle.strm_laws.specs.Prelude.{is_none_left}
use Rattle.strm_laws.specs.Prelude.{left_with, relieved, turn_ended}
use Rattle.std.specs.List.{AllByRecursion}
use Rattle.strm_types.specs.declared.spots.Asks.TheVariants as asked
use Rattle.strm_types.specs.Ldterms.{Ldterm}
use Rattle.strm_types.specs.OwnStands.{own_served, own_serves}
use Rattle.strm_types.specs.Owns.{Own}
use Rattle.strm_types.specs.Standings.{way_queue}
use Rattle.strm_laws.specs.Behaviours.{Behaviour, own_by}
use Rattle.strm_laws.specs.Earlier.{driver_place, modules_on}
use Rattle.strm_laws.specs.LdtermTurns.{ldterm_rests}
use Rattle.strm_laws.specs.ModuleTurns.{Calls, again_at, asked_turn, bytes_at, call_at, calls, made_below, module_called, module_turn_ended, moved_on}
use Rattle.strm_laws.specs.ModuleTurns.{moved_within, queue_ended, stayed_at, turned_there, waits_there}
use Rattle.strm_laws.specs.Past.{has_room_past, waits_on, writer_waits}
use Rattle.strm_laws.specs.Puts.{delivered, put_in}
use Rattle.strm_laws.specs.Rest.{echoes, ldterm_moves, module_moves, moves, moves_across, moves_in, moves_out, stream_moves}
use Rattle.strm_laws.specs.Restorable.{GoodKind, GoodModule}
use Rattle.strm_laws.specs.StackCosts.{Stands, stands_of}
use Rattle.strm_laws.specs.Stacked.{Module, OfLdterm, OfOwn, Standing, kind_name, module_asks, module_name, module_rests, module_serves}
use Rattle.strm_laws.specs.State.{State, Stream, stream, with_driver_queue, with_stream}
use Rattle.strm_laws.specs.TurnOutcomes.{TurnOutcome, stayed_put}
use Rattle.strm_laws.specs.Turns.{driver_serves, held_back, is_stopped_across, moved_across, turned_queue, up_across, with_driver}
use Rattle.strm_laws.proofs.GoodLdterms.{good-with}
use Rattle.strm_laws.proofs.GoodStreams.{AreStreams}
use Rattle.strm_laws.proofs.GoodTurns.{call-good}
use Rattle.strm_laws.proofs.PutParts.{acted-holds}
use Rattle.strm_laws.proofs.RestCosts.{up-most}
use Rattle.strm_laws.proofs.RestPuts.{tolls}
use Rattle.strm_laws.proofs.RestServes.{Goes, first-fewer, later-less}
use Rattle.strm_laws.proofs.RestStates.{Fit, FitNames, FitsName, acted-moves, delivered-pays, fits-on, same-moves, sent-pays, with-moves}
use Rattle.strm_laws.proofs.SameNames.{queue-names, serve-names}
use Rattle.strm_laws.proofs.StackStays.{Stand, puts-stand, same-names}
use Rattle.strm_laws.proofs.StandingLdterms.{stands-at}
use Rattle.strm_laws.proofs.TurnHolds.{any-holds}

-- whether a message waits for its turn
abbrev pub is_waiting : Asks → Bool
is_waiting asked.Empty = false
is_waiting _ = true

-- what holds of the module at a place, where one stands there
abbrev pub At : {C : Type 0} → (Standing C → Type 0) → ℕ → List (Standing C) → Type 0
At P i [] = ◌≡◌ {A = Bool} true false
At P zero (q ∷ qs) = P q
At P (suc i) (q ∷ qs) = At P i qs

rests-between : {C : Type 0} (l : Ldterm C) → ldterm_rests l ≡ true → l.stage ≡ Between
rests-between {C} l is = at l.stage (last-of (not (is_some l.in_work)) (is_none_left l.gathered) (not l.echoing) (is_between l.stage) is)
  where
    last-of : (a b c d : Bool) → (a && (b && (c && d))) ≡ true → d ≡ true
    last-of true true true d is = is
    last-of false b c d is = absurd (cc)
    last-of true false c d is = absurd (cc)
    last-of true true false d is = absurd (cc)

    at : (stage : Stage C) → is_between stage ≡ true → stage ≡ Between
    at Between is = refl
    at (Begun started c) is = absurd (cc)
    at (Answered echo) is = absurd (cc)

-- a change of queues that leaves the messages leaves the moves
module _ {C : Type 0} (change : Queue C → Queue C) (same : (q : Queue C) → (change q).messages ≡ q.messages) where
  pair-moves : (way : Way) (l : Ldterm C) (queues : Option (QueuePair C)) → ldterm_moves (disciplined l (option_map (pair_changed way change) queues)) ≡ ldterm_moves (disciplined l queues)
  pair-moves way l None = refl
  pair-moves Up l (Some pair) = let messages = ap (λ (ms : List (Message C)). sum_by moves_in ms) (same pair.read) in omega arith
  pair-moves Down l (Some pair) = let messages = ap (λ (ms : List (Message C)). sum_by moves_out ms) (same pair.write) in omega arith

  changed-moves : (way : Way) (q : Standing C) → module_moves (queue_changed way change q) ≡ module_moves q
  changed-moves way q = by q.part
    where
      by : (part : Module C) → module_moves (queue_changed way change (stood part q.queues)) ≡ module_moves (stood part q.queues)
      by (OfLdterm l) = pair-moves way l q.queues
      by part = refl

  changes-moves : (way : Way) (i : ℕ) (ps : List (Standing C)) → sum_by module_moves (change_among (queue_changed way change) i ps) ≡ sum_by module_moves ps
  changes-moves way i [] = refl
  changes-moves way zero (q ∷ qs) = omega (arith, changed-moves way q, sum_by-cons module_moves q qs, sum_by-cons module_moves (queue_changed way change q) qs)
  changes-moves way (suc i) (q ∷ qs) =
      let rs = change_among (queue_changed way change) i qs in
      omega (arith, changes-moves way i qs, sum_by-cons module_moves q qs, sum_by-cons module_moves q rs)

module _ {C : Type 0} where
  ended-messages : (took : Bool) (q : Queue C) → (turn_ended took q).messages ≡ q.messages
  ended-messages true q = refl
  ended-messages false q = refl

  turned-messages : (went : Bool) (q : Queue C) → (cond went (relieved q) q).messages ≡ q.messages
  turned-messages true q = refl
  turned-messages false q = refl

module _ {C : Type 0} (all : Stands) where
  -- What a turn leaves, of a pair with so many moves and these queues enabled: fewer moves, or no more, and the same queues enabled.
  abbrev pub Leaves : ℕ → List QueueName → State C → Type 0
  Leaves n names t = (stands_of t ≡ all) × ((suc (moves all t) ≤ n) ⊎ ((moves all t ≤ n) × (t.enabled ≡ names)))

  either-leaves : (n : ℕ) (names : List QueueName) (b : Bool) (one another : TurnOutcome C) → Leaves n names one.state → Leaves n names another.state → Leaves n names (cond b one another).state
  either-leaves n names true one another first second = first
  either-leaves n names false one another first second = second

  stream-stands : (side : Side) (t : Stream C) (s : State C) → map module_name t.modules ≡ map module_name (stream side s).modules → stands_of s ≡ all → stands_of (with_stream side t s) ≡ all
  stream-stands side t s same is = same-names side t s same ∙ is

  -- the end of a turn, and a writer that waits
  ended-stands : (here : Spot) (took : Bool) (s : State C) → stands_of s ≡ all → stands_of (with_stream here.side (queue_ended here took (stream here.side s)) s) ≡ all
  ended-stands here took s is = stream-stands here.side _ s (queue-names here.way (turn_ended took) (here.at - 1) (stream here.side s).modules) is

  ended-same : (here : Spot) (took : Bool) (s : State C) → moves all (with_stream here.side (queue_ended here took (stream here.side s)) s) ≡ moves all s
  ended-same here took s =
      let on = stream here.side s in
      same-moves all here.side (queue_ended here took on) s (let e = changes-moves (turn_ended took) (ended-messages took) here.way (here.at - 1) on.modules in omega (arith, e))

  waits-names : (side : Side) (way : Way) (band : ℕ) (o : Option ℕ) (t : Stream C) → map module_name (waits_on way band o t).modules ≡ map module_name t.modules
  waits-names side Up band None t = refl
  waits-names side Down band None t = refl
  waits-names side way band (Some place) t = queue-names way (with_waiting band) (place - 1) t.modules

  waits-stand : (side : Side) (way : Way) (at band : ℕ) (s : State C) → stands_of s ≡ all → stands_of (writer_waits side way at band s) ≡ all
  waits-stand side way at band s is =
      let t = stream side s in
      let o = place_past way at t.modules in
      stream-stands side (waits_on way band o t) s (waits-names side way band o t) is

  waits-moves : (echoed : Bool) (way : Way) (band : ℕ) (o : Option ℕ) (t : Stream C) → stream_moves echoed (waits_on way band o t) ≡ stream_moves echoed t
  waits-moves echoed Up band None t = refl
  waits-moves echoed Down band None t = refl
  waits-moves echoed way band (Some place) t = let e = changes-moves (with_waiting band) (λ q. refl) way (place - 1) t.modules in omega (arith, e)

  waits-same : (side : Side) (way : Way) (at band : ℕ) (s : State C) → moves all (writer_waits side way at band s) ≡ moves all s
  waits-same side way at band s =
      let t = stream side s in
      let o = place_past way at t.modules in
      same-moves all side (waits_on way band o t) s (waits-moves (echoes all (other side)) way band o t)

  module _ (cells : Cells C) (posts : Side → ℕ) (fit : Fit all posts) where
    -- a driver's turn
    moved-leaves : (K : Behaviour) (side : Side) (m : Message C) (rest : List (Message C)) (s : State C) → stands_of s ≡ all → (stream side s).driver.queue.messages ≡ m ∷ rest
        → Leaves (moves all s) s.enabled (moved_across K cells side m rest s).state
    moved-leaves K side m rest s is first =
        let from = with_driver side (left_with rest (stream side s).driver.queue) s in
        let t = (delivered K cells (up_across side from) m from).state in
        let from-stands = stream-stands side (with_driver_queue (left_with rest (stream side s).driver.queue) (stream side s)) s refl is in
        let went = carried-holds (Stand all) (put_in K cells) (puts-stand all K cells) HOPS (record { to = up_across side from; message = m }) from from-stands in
        let q = turned_queue (stream side t).driver.queue in
        let goes = not (size_of m == 0) in
        let crossing = moves_across {C = C} (echoes all (other side)) in
        let last = with_driver_queue (cond goes (relieved q) q) (stream side t) in
        let same = ap (λ (ms : List (Message C)). sum_by crossing ms) (turned-messages goes q) in
        let taken = ap (λ (ms : List (Message C)). sum_by crossing ms) first ∙ sum_by-cons crossing m rest in (
          stream-stands side last t refl went,
          inl (omega (
            arith,
            with-moves all side (with_driver_queue (left_with rest (stream side s).driver.queue) (stream side s)) s,
            taken,
            delivered-pays all posts fit cells K (up_across side from) m from from-stands,
            up-most all posts (other side) (modules_on (other side) from) m,
            with-moves all side last t,
            same,
          )),
        )

    pub driver-leaves : (K : Behaviour) (side : Side) (ms : List (Message C)) (s : State C) → stands_of s ≡ all → (stream side s).driver.queue.messages ≡ ms → Leaves (moves all s) s.enabled (driver_serves K cells side ms s).state
    driver-leaves K side [] s is first =
        let on = with_driver_queue (record (stream side s).driver.queue { want_read = true }) (stream side s) in
        (stream-stands side on s refl is, inr (omega (arith, same-moves all side on s refl), refl))
    driver-leaves K side (m ∷ rest) s is first =
        let on = with_driver_queue (held_back (stream side s).driver.queue) (stream side s) in
        let kept = with_driver side (held_back (stream side s).driver.queue) s in
        let kept-stands = stream-stands side on s refl is in
        let kept-same = same-moves all side on s refl in
        any-holds (λ t. Leaves (moves all s) s.enabled t.state) (is_open (stream (other side) s).opened) (is_stopped_across side m s) _ _ _
        (kept-stands, inr (omega (arith, kept-same), refl))
        (waits-stand (other side) Up (driver_place (other side) kept) (band_of m) kept kept-stands, inr (omega (arith, kept-same, waits-same (other side) Up (driver_place (other side) kept) (band_of m) kept), refl))
        (moved-leaves K side m rest s is first)

    module _ (here : Spot) (some : 0 < here.at) where
      abbrev acts : Behaviour → Bool → ℕ → ℕ → Standing C → Acted C (Standing C)
      acts K again made left p = (module_serves K cells here made again (Some left) p).acted

      abbrev FitsHere : ℕ → List (Standing C) → Type 0
      FitsHere at ps = FitNames (echoes all here.side) (echoes all (other here.side)) (posts here.side) at (map module_name ps)

      -- a module whose turn may begin, and treats so many bytes of its first message
      abbrev pub Ready : Behaviour → ℕ → Standing C → Type 0
      Ready K left q = (module_rests q ≡ true) × (is_waiting (module_asks K cells here.way q) ≡ true) × Goes left (first_size (messages_at here.way q))

      waits-some : (way : Way) (l : TheLdterm C) → is_waiting (ldterm_asks way l) ≡ true → is_none_left (queue_at way l).messages ≡ false
      waits-some way l is = at (queue_at way l).messages is
        where
          at : (ms : List (Message C)) → is_waiting (asked_first way l.stopped ms) ≡ true → is_none_left ms ≡ false
          at [] is = absurd (cc)
          at (m ∷ ms) is = refl

      module-first : (K : Behaviour) (made left : ℕ) (q : Standing C) → FitsName (echoes all here.side) (echoes all (other here.side)) (posts here.side) here.at (module_name q) → GoodModule q → Ready K left q
          → let t = acts K false made left q in suc (module_moves t.state + tolls all posts t.sent) ≤ module_moves q
      module-first K made left q fits good ready = by q.part fits good.kind good.has ready
        where
          bare : (queues : Option (QueuePair C)) (o : Own) → is_some queues ≡ false → is_waiting (module_asks K cells here.way (stood (OfOwn o) queues)) ≡ true → ⊥
          bare None o none waits = false≢true waits
          bare (Some pair) o none waits = false≢true (sym none)

          by : (part : Module C) → FitsName (echoes all here.side) (echoes all (other here.side)) (posts here.side) here.at (kind_name part) → GoodKind part
              → is_some q.queues ≡ have_queues (kind_name part) → Ready K left (stood part q.queues)
              → let t = acts K false made left (stood part q.queues) in suc (module_moves t.state + tolls all posts t.sent) ≤ module_moves (stood part q.queues)
          by (OfLdterm l) fits own has ready =
              let d = disciplined l q.queues in
              let size = subst (λ ms. Goes left (first_size ms)) (sym (stands-at here.way l q.queues)) ready.2 in
              first-fewer cells all posts here some fits.0 fits.1 fits.2 here.way made left d (rests-between l ready.0) (waits-some here.way d ready.1) size (good-with l q.queues own good.queues)
          by (OfOwn o) fits own has ready = absurd (bare q.queues o (has ∙ fits) ready.1)
          by part fits own has ready = absurd (cc (ready.1))

      module-later : (K : Behaviour) (made left : ℕ) (q : Standing C) → FitsName (echoes all here.side) (echoes all (other here.side)) (posts here.side) here.at (module_name q) → GoodModule q → here.way ≡ Up
          → let t = acts K true made left q in module_moves t.state + tolls all posts t.sent ≤ module_moves q
      module-later K made left q fits good up = by q.part fits good.kind good.has
        where
          bare : (queues : Option (QueuePair C)) (o : Own) → is_some queues ≡ false
              → let t = acts K true made left (stood (OfOwn o) queues) in module_moves t.state + tolls all posts t.sent ≤ module_moves (stood (OfOwn o) queues)
          bare None o none = omega arith
          bare (Some pair) o none = absurd (false≢true (sym none))

          by : (part : Module C) → FitsName (echoes all here.side) (echoes all (other here.side)) (posts here.side) here.at (kind_name part) → GoodKind part
              → is_some q.queues ≡ have_queues (kind_name part)
              → let t = acts K true made left (stood part q.queues) in module_moves t.state + tolls all posts t.sent ≤ module_moves (stood part q.queues)
          by (OfLdterm l) fits own has =
              later-less cells all posts here some fits.0 fits.1 fits.2 here.way made left (disciplined l q.queues) up (good-with l q.queues own good.queues)
          by (OfOwn o) fits own has = bare q.queues o (has ∙ fits)
          by part fits own has = omega arith

      fits-at : (at : ℕ) (q : Standing C) → at ≡ here.at → FitsName (echoes all here.side) (echoes all (other here.side)) (posts here.side) at (module_name q) → FitsName (echoes all here.side) (echoes all (other here.side)) (posts here.side) here.at (module_name q)
      fits-at at q same fits = subst (λ n. FitsName (echoes all here.side) (echoes all (other here.side)) (posts here.side) n (module_name q)) same fits

      among-first : (K : Behaviour) (made left i at : ℕ) (ps : List (Standing C)) → at + i ≡ here.at → FitsHere at ps → AllByRecursion GoodModule ps → At (Ready K left) i ps
          → let t = act_among (acts K false made left) i ps in suc (sum_by module_moves t.state + tolls all posts t.sent) ≤ sum_by module_moves ps
      among-first K made left i at [] is fits good ready = absurd (cc (ready))
      among-first K made left zero at (q ∷ qs) is fits good ready =
          let t = acts K false made left q in
          omega (arith, module-first K made left q (fits-at at q (omega (arith, is)) fits.0) good.0 ready, sum_by-cons module_moves q qs, sum_by-cons module_moves t.state qs)
      among-first K made left (suc i) at (q ∷ qs) is fits good ready =
          let t = act_among (acts K false made left) i qs in
          omega (arith, among-first K made left i (suc at) qs (omega (arith, is)) fits.1 good.1 ready, sum_by-cons module_moves q qs, sum_by-cons module_moves q t.state)

      among-later : (K : Behaviour) (made left i at : ℕ) (ps : List (Standing C)) → at + i ≡ here.at → FitsHere at ps → AllByRecursion GoodModule ps → here.way ≡ Up
          → let t = act_among (acts K true made left) i ps in sum_by module_moves t.state + tolls all posts t.sent ≤ sum_by module_moves ps
      among-later K made left i at [] is fits good up = omega arith
      among-later K made left zero at (q ∷ qs) is fits good up =
          let t = acts K true made left q in
          omega (arith, module-later K made left q (fits-at at q (omega (arith, is)) fits.0) good.0 up, sum_by-cons module_moves q qs, sum_by-cons module_moves t.state qs)
      among-later K made left (suc i) at (q ∷ qs) is fits good up =
          let t = act_among (acts K true made left) i qs in
          omega (arith, among-later K made left i (suc at) qs (omega (arith, is)) fits.1 good.1 up, sum_by-cons module_moves q qs, sum_by-cons module_moves q t.state)

      -- a call, with what it sent
      called-stands : (K : Behaviour) (again : Bool) (left : ℕ) (s : State C) → stands_of s ≡ all → stands_of (module_called K cells here again left s).state ≡ all
      called-stands K again left s is =
          let ps = (stream here.side s).modules in
          let t = call_at K cells here (made_below here.side s) again left ps in
          acted-holds (Stand all) (λ names s is. is) (λ dir n s is. is) here t s
          (stream-stands here.side (record (stream here.side s) { modules = t.state }) s (serve-names K cells here (made_below here.side s) again (Some left) (here.at - 1) ps) is)

      abbrev sent_on : Behaviour → Bool → ℕ → State C → State C
      sent_on K again left s = let t = module_called K cells here again left s in (in_turn (carried (put_in K cells) HOPS) t.sent t.state).state

      on-stands : (K : Behaviour) (again : Bool) (left : ℕ) (s : State C) → stands_of s ≡ all → stands_of (sent_on K again left s) ≡ all
      on-stands K again left s is =
          let t = module_called K cells here again left s in
          in_turn-holds (Stand all) (carried (put_in K cells) HOPS) (carried-holds (Stand all) (put_in K cells) (puts-stand all K cells) HOPS) t.sent t.state (called-stands K again left s is)

      on-first : (K : Behaviour) (left : ℕ) (s : State C) → stands_of s ≡ all → AreStreams s → At (Ready K left) (here.at - 1) (stream here.side s).modules → suc (moves all (sent_on K false left s)) ≤ moves all s
      on-first K left s is good ready =
          let ps = (stream here.side s).modules in
          let made = made_below here.side s in
          let t = module_called K cells here false left s in
          omega (
            arith,
            among-first K made left (here.at - 1) 1 ps (omega (arith, some)) (fits-on all posts fit here.side s is) (good.0 here.side).modules.each ready,
            acted-moves all here (call_at K cells here made false left ps) s,
            sent-pays all posts fit cells K t.sent t.state (called-stands K false left s is),
          )

      on-later : (K : Behaviour) (left : ℕ) (s : State C) → stands_of s ≡ all → AreStreams s → here.way ≡ Up → moves all (sent_on K true left s)
          ≤ moves all s
      on-later K left s is good up =
          let ps = (stream here.side s).modules in
          let made = made_below here.side s in
          let t = module_called K cells here true left s in
          omega (
            arith,
            among-later K made left (here.at - 1) 1 ps (omega (arith, some)) (fits-on all posts fit here.side s is) (good.0 here.side).modules.each up,
            acted-moves all here (call_at K cells here made true left ps) s,
            sent-pays all posts fit cells K t.sent t.state (called-stands K true left s is),
          )

      -- on the write queue one call is a turn
      down-once : (K : Behaviour) (made left i : ℕ) (again : Bool) (ps : List (Standing C)) → here.way ≡ Down → slice_index_or (map (λ p. (module_serves K cells here made again (Some left) p).again) ps) i false ≡ false
      down-once K made left i again [] down = refl
      down-once K made left zero again (q ∷ qs) down = one here.way q down
        where
          served : (ms : List (Message C)) (l : TheLdterm C) (spot : Spot) → (output_serves cells spot (Some left) made ms l).again ≡ false
          served [] l spot = refl
          served (m ∷ ms) l spot = refl

          owns : (o : Own) (queues : Option (QueuePair C)) (spot : Spot) → (own_serves (own_by K cells) spot (stood o queues)).again ≡ false
          owns o None spot = refl
          owns o (Some pair) spot = one-served (way_queue spot.way pair).messages
            where
              one-served : (ms : List (Message C)) → (own_served (own_by K cells) spot (stood o (Some pair)) pair ms).again ≡ false
              one-served [] = refl
              one-served (m ∷ ms) = refl

          one : (way : Way) (q : Standing C) → way ≡ Down → (module_serves K cells (record here { way = way }) made again (Some left) q).again ≡ false
          one way q down = by way q.part down
            where
              by : (way : Way) (part : Module C) → way ≡ Down → (module_serves K cells (record here { way = way }) made again (Some left) (stood part q.queues)).again ≡ false
              by Down (OfLdterm l) down = let d = disciplined l q.queues in served d.write_queue.messages d (record here { way = Down })
              by Up (OfLdterm l) down = absurd (cc)
              by way (OfOwn o) down = owns o q.queues (record here { way = way })
              by way part down = refl
      down-once K made left (suc i) again (q ∷ qs) down = down-once K made left i again qs down

      calls-later : (K : Behaviour) (n left : ℕ) (s : State C) → stands_of s ≡ all → AreStreams s → here.way ≡ Up → let v = calls K cells here n true left s in (stands_of v.state ≡ all) × (moves all v.state ≤ moves all s)
      calls-later K zero left s is good up = (is, omega arith)
      calls-later K (suc more) left s is good up =
          let ps = (stream here.side s).modules in
          let u = sent_on K true left s in
          let less = left - bytes_at K cells here (made_below here.side s) true left ps in
          let behind = calls-later K more less u (on-stands K true left s is) (call-good cells K here true left s good) up in
          let this = on-later K left s is good up in
          either (λ (v : Calls C). (stands_of v.state ≡ all) × (moves all v.state ≤ moves all s)) (again_at K cells here (made_below here.side s) true left ps) _ _
          (behind.0, omega (arith, behind.1, this)) (on-stands K true left s is, this)

      calls-fewer : (K : Behaviour) (n left : ℕ) (s : State C) → 0 < n → stands_of s ≡ all → AreStreams s
          → At (Ready K left) (here.at - 1) (stream here.side s).modules
          → let v = calls K cells here n false left s in (stands_of v.state ≡ all) × (suc (moves all v.state) ≤ moves all s)
      calls-fewer K zero left s goes is good ready = absurd (omega (arith, goes))
      calls-fewer K (suc more) left s goes is good ready = at (again_at K cells here (made_below here.side s) false left ps) refl here.way refl (on-first K left s is good ready)
        where
          ps : List (Standing C)
          ps = (stream here.side s).modules

          less_left : ℕ
          less_left = left - bytes_at K cells here (made_below here.side s) false left ps

          at : (again : Bool) → again_at K cells here (made_below here.side s) false left ps ≡ again → (way : Way) → here.way ≡ way → suc (moves all (sent_on K false left s)) ≤ moves all s
              → (let t = module_called K cells here false left s in
              let u = in_turn (carried (put_in K cells) HOPS) t.sent t.state in
              let bytes = bytes_at K cells here (made_below here.side s) false left ps in
              let v = calls K cells here more true (left - bytes) u.state in
              let w : Calls C = cond again (record { state = v.state; gone = t.gone ++ u.gone ++ v.gone; bytes = bytes + v.bytes; ended = v.ended }) (record { state = u.state; gone = t.gone ++ u.gone; bytes = bytes; ended = true }) in
              (stands_of w.state ≡ all) × (suc (moves all w.state) ≤ moves all s))
          at false is-it way is-way this = (on-stands K false left s is, this)
          at true is-it Down is-way this = absurd (cc (is-it, down-once K (made_below here.side s) left (here.at - 1) false ps is-way))
          at true is-it Up is-way this =
              let behind = calls-later K more less_left (sent_on K false left s) (on-stands K false left s is) (call-good cells K here false left s good) is-way in
              (behind.0, omega (arith, behind.1, this))

      -- a turn that treats so many bytes of the first message
      pub moved-leaves-here : (K : Behaviour) (name : QueueName) (bytes : ℕ) (s : State C) → stands_of s ≡ all → AreStreams s → At (Ready K bytes) (here.at - 1) (stream here.side s).modules → Leaves (moves all s) s.enabled (moved_on K cells here name bytes s).state
      moved-leaves-here K name bytes s is good ready =
          let t = calls K cells here (3 * bytes + 1) false bytes s in
          let behind = calls-fewer K (3 * bytes + 1) bytes s (omega arith) is good ready in
          let took = not (t.bytes == 0) in
          either-leaves (moves all s) s.enabled t.ended _ (stayed_put Blocked s)
          (ended-stands here took t.state behind.0, inl (omega (arith, behind.1, ended-same here took t.state)))
          (is, inr (omega arith, refl))

      -- one that treats nothing
      pub stayed-leaves : (turn : Turn) (s : State C) → stands_of s ≡ all → Leaves (moves all s) s.enabled (stayed_at turn here s).state
      stayed-leaves turn s is = (ended-stands here false s is, inr (omega (arith, ended-same here false s), refl))

      pub waits-leaves : (band : ℕ) (s : State C) → stands_of s ≡ all → Leaves (moves all s) s.enabled (waits_there band here s).state
      waits-leaves band s is =
          let waiting = writer_waits here.side here.way here.at band s in
          (ended-stands here false waiting (waits-stand here.side here.way here.at band s is), inr (omega (arith, waits-same here.side here.way here.at band s, ended-same here false waiting), refl))

      one-ready : (K : Behaviour) (left i : ℕ) (ps : List (Standing C)) → slice_index_or (map module_rests ps) i false ≡ true → is_waiting (slice_index_or (map (module_asks K cells here.way) ps) i asked.Empty) ≡ true
          → Goes left (slice_index_or (map (λ p. first_size (messages_at here.way p)) ps) i 0) → At (Ready K left) i ps
      one-ready K left i [] rests waits size = absurd (cc (rests))
      one-ready K left zero (q ∷ qs) rests waits size = (rests, waits, size)
      one-ready K left (suc i) (q ∷ qs) rests waits size = one-ready K left i qs rests waits size

      -- how far a turn goes that moved so many bytes
      goes-far : (bytes size : ℕ) → Goes (min (max 1 bytes) size) size
      goes-far bytes zero is = refl
      goes-far zero (suc size) is = absurd (omega (arith, is))
      goes-far (suc bytes) (suc size) is = absurd (omega (arith, is))

      -- how many bytes the first message of the queue there has
      abbrev first_there : State C → ℕ
      first_there s = at_place (λ p. first_size (messages_at here.way p)) 0 here.at (stream here.side s).modules

      -- a turn that is answered so
      abbrev pub Answers : Turn → TurnOutcome C → Type 0
      Answers (Moved bytes) t = Unit {0}
      Answers Blocked t = t.turn ≡ Blocked
      Answers Idle t = t.turn ≡ Idle

      within-leaves : (K : Behaviour) (name : QueueName) (turn : Turn) (s : State C) → stands_of s ≡ all → AreStreams s → at_place module_rests false here.at (stream here.side s).modules ≡ true
          → is_waiting (at_place (module_asks K cells here.way) asked.Empty here.at (stream here.side s).modules) ≡ true → Answers turn (moved_within K cells here name turn s) → Leaves (moves all s) s.enabled (moved_within K cells here name turn s).state
      within-leaves K name (Moved bytes) s is good rests waits answers =
          let most = min (max 1 bytes) (first_there s) in
          moved-leaves-here K name most s is good (one-ready K most (here.at - 1) (stream here.side s).modules rests waits (goes-far bytes (first_there s)))
      within-leaves K name Blocked s is good rests waits answers = blocked (calls K cells here (3 * min 0 (first_there s) + 1) false (min 0 (first_there s)) s) answers
        where
          blocked : (t : Calls C) → let u : TurnOutcome C = cond t.ended (record { turn = Moved t.bytes; state = module_turn_ended name here (not (t.bytes == 0)) t.state; gone = t.gone }) (stayed_put Blocked s) in u.turn ≡ Blocked → Leaves (moves all s) s.enabled u.state
          blocked t answers = at t.ended answers
            where
              at : (ended : Bool) → let u : TurnOutcome C = cond ended (record { turn = Moved t.bytes; state = module_turn_ended name here (not (t.bytes == 0)) t.state; gone = t.gone }) (stayed_put Blocked s) in u.turn ≡ Blocked → Leaves (moves all s) s.enabled u.state
              at true answers = absurd (cc)
              at false answers = (is, inr (omega arith, refl))
      within-leaves K name Idle s is good rests waits answers = never (calls K cells here (3 * min 0 (first_there s) + 1) false (min 0 (first_there s)) s) answers
        where
          never : (t : Calls C) → let u : TurnOutcome C = cond t.ended (record { turn = Moved t.bytes; state = module_turn_ended name here (not (t.bytes == 0)) t.state; gone = t.gone }) (stayed_put Blocked s) in u.turn ≡ Idle → Leaves (moves all s) s.enabled u.state
          never t answers = at t.ended answers
            where
              at : (ended : Bool) → let u : TurnOutcome C = cond ended (record { turn = Moved t.bytes; state = module_turn_ended name here (not (t.bytes == 0)) t.state; gone = t.gone }) (stayed_put Blocked s) in u.turn ≡ Idle → Leaves (moves all s) s.enabled u.state
              at true answers = absurd (cc)
              at false answers = (is, inr (omega arith, refl))

      asked-leaves : (K : Behaviour) (asks : Asks) (name : QueueName) (turn : Turn) (s : State C) → stands_of s ≡ all → AreStreams s → at_place module_rests false here.at (stream here.side s).modules ≡ true
          → at_place (module_asks K cells here.way) asked.Empty here.at (stream here.side s).modules ≡ asks → Answers turn (asked_turn K cells here asks name turn s) → Leaves (moves all s) s.enabled (asked_turn K cells here asks name turn s).state
      asked-leaves K asked.Empty name turn s is good rests asks answers = stayed-leaves Idle s is
      asked-leaves K asked.Held name turn s is good rests asks answers = stayed-leaves Blocked s is
      asked-leaves K asked.Free name turn s is good rests asks answers = within-leaves K name turn s is good rests (ap is_waiting asks) answers
      asked-leaves K (asked.Room band) name turn s is good rests asks answers = at (has_room_past here.side here.way here.at band.0 s) answers
        where
          at : (room : Bool) → Answers turn (cond room (moved_within K cells here name turn s) (waits_there band.0 here s)) → Leaves (moves all s) s.enabled (cond room (moved_within K cells here name turn s) (waits_there band.0 here s)).state
          at true answers = within-leaves K name turn s is good rests (ap is_waiting asks) answers
          at false answers = waits-leaves band.0 s is

      pub there-leaves : (K : Behaviour) (name : QueueName) (turn : Turn) (s : State C) → stands_of s ≡ all → AreStreams s → Answers turn (turned_there K cells here name turn s) → Leaves (moves all s) s.enabled (turned_there K cells here name turn s).state
      there-leaves K name turn s is good answers = at (at_place module_rests false here.at ps) refl answers
        where
          ps : List (Standing C)
          ps = (stream here.side s).modules

          asks : Asks
          asks = at_place (module_asks K cells here.way) asked.Empty here.at ps

          at : (rests : Bool) → at_place module_rests false here.at ps ≡ rests → Answers turn (cond rests (asked_turn K cells here asks name turn s) (stayed_put Blocked s))
              → Leaves (moves all s) s.enabled (cond rests (asked_turn K cells here asks name turn s) (stayed_put Blocked s)).state
          at true rests answers = asked-leaves K asks name turn s is good rests refl answers
          at false rests answers = (is, inr (omega arith, refl))
