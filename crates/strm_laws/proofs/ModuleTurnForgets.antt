-- Forgetting the origins of cells commutes with turns of the queues of modules.
use Rattle.strm_laws.proofs.Prelude.{ℕ, zero, suc, ◌≡◌, ◌+◌, ◌-◌, Bool, true, false, cond, List, [], ◌∷◌, ◌++◌, map, take, refl, sym, ap, ◌∙◌, ◌==◌}
use Rattle.strm_laws.proofs.Prelude.{◌&&◌, not, min, slice_index_or, Option, None, Some, option_map, take-map}
use Rattle.strm_laws.specs.Prelude.{Turn, Moved, Blocked, Idle, MODULES, HOPS, Place, QueueName, Way, Up, Down, Asks, Spot, Cells, AreCells, plain}
use Rattle.strm_laws.specs.Prelude.{Carried, Took, carried, in_turn, Message, map_message, at_place, QueuePair, map_pair, messages_at, messages_on}
use Rattle.strm_laws.specs.Prelude.{pair_changed, queue_changed, stood, change_among, enable_if, enable_some, map_acted, map_carried, map_fate}
use Rattle.strm_laws.specs.Prelude.{map_parcel, map_took, Queue, is_none_left, map_messages, map_queue, relieved, first_size, Serving, end_relieves}
use Rattle.strm_laws.specs.Prelude.{has_more, turn_ended}
use Rattle.std.specs.Prelude.{◌*◌}
use Rattle.strm_types.specs.declared.spots.Asks.TheVariants as asked
use Rattle.strm_laws.specs.Behaviours.{Behaviour}
use Rattle.strm_laws.specs.Earlier.{places_of}
use Rattle.strm_laws.specs.ModuleTurns.{Calls, again_at, asked_turn, bytes_at, call_at, calls, made_below, module_called, module_turn_ended, module_turned, moved_by, moved_on, moved_within, named_from, place_named, queue_ended, stayed_at, turned_named, turned_there, waits_there}
use Rattle.strm_laws.specs.Past.{has_room_past, writer_waits}
use Rattle.strm_laws.specs.Puts.{earlier_at, module_acted, put_in}
use Rattle.strm_types.specs.Service.{turn_relieves}
use Rattle.strm_laws.specs.Stacked.{Standing, map_kind, map_module, module_asks, module_rests, module_serves}
use Rattle.strm_laws.specs.State.{State, Stream, stream, with_stream, map_state, map_stream}
use Rattle.strm_laws.specs.TurnOutcomes.{TurnOutcome, map_turn_outcome, stayed_put}
use Rattle.strm_laws.proofs.DeliveryForgets.{carried-agrees, in_turn-agrees, map-join}
use Rattle.strm_laws.proofs.Earlier.{before_at-forgets, places-forget}
use Rattle.strm_laws.proofs.EmptiedForgets.{stream-forgets}
use Rattle.strm_laws.proofs.Forgetting.{none-forgets, relieved-forgets, relieves_from-forgets, size-forgets}
use Rattle.strm_laws.proofs.Past.{room-forgets, with_stream-same, writer_waits-forgets}
use Rattle.strm_laws.proofs.PutsForget.{acted-same, puts-forget}
use Rattle.strm_laws.proofs.LawfulKinds.{asks-lawfully, calls-lawfully, lawful}
use Rattle.strm_laws.proofs.ModulePuts.{acts-forget}

module _ {C D : Type 0} (f : C → D) where
  abbrev images : List (Standing C) → List (Standing D)
  images ps = map (map_module f) ps

  -- what is said of a place, where it is the same of each module
  said-same : {A : Type 0} (say : Standing C → A) (say' : Standing D → A) → ((p : Standing C) → say' (map_module f p) ≡ say p) → (ps : List (Standing C)) → map say' (images ps) ≡ map say ps
  said-same say say' same [] = refl
  said-same say say' same (p ∷ ps) = ap (λ x. x ∷ map say' (images ps)) (same p) ∙ ap (λ xs. say p ∷ xs) (said-same say say' same ps)

  at_place-same : {A : Type 0} (say : Standing C → A) (say' : Standing D → A) → ((p : Standing C) → say' (map_module f p) ≡ say p) → (otherwise : A) (place : ℕ) (ps : List (Standing C))
      → at_place say' otherwise place (images ps) ≡ at_place say otherwise place ps
  at_place-same say say' same otherwise place ps = ap (λ xs. slice_index_or xs (place - 1) otherwise) (said-same say say' same ps)

  -- a change of one of several
  change-same : (change : Standing C → Standing C) (change' : Standing D → Standing D) → ((p : Standing C) → change' (map_module f p) ≡ map_module f (change p)) → (i : ℕ) (ps : List (Standing C))
      → change_among change' i (images ps) ≡ images (change_among change i ps)
  change-same change change' same i [] = refl
  change-same change change' same zero (p ∷ ps) = ap (λ q. q ∷ images ps) (same p)
  change-same change change' same (suc i) (p ∷ ps) = ap (λ qs. map_module f p ∷ qs) (change-same change change' same i ps)

  -- what stands on a module's queue
  on-same : (way : Way) (queues : Option (QueuePair C)) → messages_on way (option_map (map_pair f) queues) ≡ map_messages f (messages_on way queues)
  on-same way None = refl
  on-same Up (Some pair) = refl
  on-same Down (Some pair) = refl

  first-same : (ms : List (Message C)) → first_size (map_messages f ms) ≡ first_size ms
  first-same [] = refl
  first-same (m ∷ ms) = size-forgets f m

  size-same : (way : Way) (p : Standing C) → first_size (messages_at way (map_module f p)) ≡ first_size (messages_at way p)
  size-same way p = ap (λ ms. first_size ms) (on-same way p.queues) ∙ first-same (messages_at way p)

  -- the end of a turn
  ended-same : (took : Bool) (q : Queue C) → turn_ended took (map_queue f q) ≡ map_queue f (turn_ended took q)
  ended-same took q =
      ap (λ none. cond took (relieved (record (map_queue f q) { want_read = none })) (record (map_queue f q) { want_read = none })) (none-forgets f (map_message f) q.messages)
      ∙ at took
    where
      at : (took : Bool) → cond took (relieved (map_queue f (record q { want_read = is_none_left q.messages }))) (map_queue f (record q { want_read = is_none_left q.messages })) ≡ map_queue f (turn_ended took q)
      at true = sym (relieved-forgets f (record q { want_read = is_none_left q.messages }))
      at false = refl

  changed-same : (way : Way) (took : Bool) (p : Standing C) → queue_changed way (turn_ended took) (map_module f p) ≡ map_module f (queue_changed way (turn_ended took) p)
  changed-same way took p = ap (λ queues. stood (map_kind f p.part) queues) (by way p.queues)
    where
      by : (way : Way) (queues : Option (QueuePair C)) → option_map (pair_changed way (turn_ended took)) (option_map (map_pair f) queues) ≡ option_map (map_pair f) (option_map (pair_changed way (turn_ended took)) queues)
      by way None = refl
      by Up (Some pair) = ap (λ q. Some (record (map_pair f pair) { read = q })) (ended-same took pair.read)
      by Down (Some pair) = ap (λ q. Some (record (map_pair f pair) { write = q })) (ended-same took pair.write)

  queue_ended-same : (here : Spot) (took : Bool) (t : Stream C) → queue_ended here took (map_stream f t) ≡ map_stream f (queue_ended here took t)
  queue_ended-same here took t =
      ap (λ (ps : List (Standing D)). record (map_stream f t) { modules = ps })
      (change-same (queue_changed here.way (turn_ended took)) (queue_changed here.way (turn_ended took)) (changed-same here.way took) (here.at - 1) t.modules)

  ended_at-same : (here : Spot) (took : Bool) (s : State C) → with_stream here.side (queue_ended here took (stream here.side (map_state f s))) (map_state f s) ≡ map_state f (with_stream here.side (queue_ended here took (stream here.side s)) s)
  ended_at-same here took s =
      rw (stream-forgets f here.side s, queue_ended-same here took (stream here.side s)) (with_stream-same f here.side (queue_ended here took (stream here.side s)) s)

  relieves-same : (took : Bool) (q : Queue C) → turn_relieves took (map_queue f q) ≡ turn_relieves took q
  relieves-same took q = ap (λ b. took && b) (relieves_from-forgets f 0 q.messages q.flows)

  end_relieves-same : (took : Bool) (way : Way) (p : Standing C) → end_relieves took way (map_module f p) ≡ end_relieves took way p
  end_relieves-same took way p = by way p.queues
    where
      by : (way : Way) (queues : Option (QueuePair C)) → end_relieves took way (map_module f (stood p.part queues)) ≡ end_relieves took way (stood p.part queues)
      by way None = refl
      by Up (Some pair) = relieves-same took pair.read
      by Down (Some pair) = relieves-same took pair.write

  more-same : (way : Way) (p : Standing C) → has_more way (map_module f p) ≡ has_more way p
  more-same way p = ap (λ ms. not (is_none_left ms)) (on-same way p.queues) ∙ ap (λ none. not none) (none-forgets f (map_message f) (messages_at way p))

  abbrev with_enabled : {E : Type 0} → List QueueName → State E → State E
  with_enabled names s = record s { enabled = names }

  turn_ended-same : (name : QueueName) (here : Spot) (took : Bool) (s : State C) → module_turn_ended name here took (map_state f s) ≡ map_state f (module_turn_ended name here took s)
  turn_ended-same name here took s =
      let on = stream here.side s in
      let names : Bool → Bool → Option QueueName → List QueueName = λ more goes earlier. enable_if more name (enable_some goes earlier s.enabled) in
      let ended = with_stream here.side (queue_ended here took (stream here.side (map_state f s))) (map_state f s) in
      let earlier = earlier_at here.side here.at s here.way in
      let goes = at_place (end_relieves took here.way) false here.at on.modules in
      let more = at_place (has_more here.way) false here.at on.modules in
      ap (λ (t : Stream D). with_enabled (names (at_place (has_more here.way) false here.at t.modules) (at_place (end_relieves took here.way) false here.at t.modules) (earlier_at here.side here.at (map_state f s) here.way)) ended) (stream-forgets f here.side s)
      ∙ ap (λ b. with_enabled (names b (at_place (end_relieves took here.way) false here.at (images on.modules)) (earlier_at here.side here.at (map_state f s) here.way)) ended) (at_place-same (has_more here.way) (has_more here.way) (more-same here.way) false here.at on.modules)
      ∙ ap (λ b. with_enabled (names more b (earlier_at here.side here.at (map_state f s) here.way)) ended) (at_place-same (end_relieves took here.way) (end_relieves took here.way) (end_relieves-same took here.way) false here.at on.modules)
      ∙ ap (λ e. with_enabled (names more goes e) ended) (before_at-forgets f here.side here.way here.at s)
      ∙ ap (λ x. with_enabled (names more goes earlier) x) (ended_at-same here took s)

  -- several calls
  abbrev map_calls : Calls C → Calls D
  map_calls t = record { state = map_state f t.state; gone = map (map_fate f) t.gone; bytes = t.bytes; ended = t.ended }

  either-same : (b : Bool) (one another : TurnOutcome C) (one' another' : TurnOutcome D) → one' ≡ map_turn_outcome f one → another' ≡ map_turn_outcome f another → cond b one' another' ≡ map_turn_outcome f (cond b one another)
  either-same true one another one' another' first second = first
  either-same false one another one' another' first second = second

  stayed-same : (turn : Turn) (here : Spot) (s : State C) → stayed_at turn here (map_state f s) ≡ map_turn_outcome f (stayed_at turn here s)
  stayed-same turn here s = ap (λ x. stayed_put turn x) (ended_at-same here false s)

  waits-same : (band : ℕ) (here : Spot) (s : State C) → waits_there band here (map_state f s) ≡ map_turn_outcome f (waits_there band here s)
  waits-same band here s = ap (λ x. stayed_at Blocked here x) (writer_waits-forgets f here.side here.way here.at band s) ∙ stayed-same Blocked here (writer_waits here.side here.way here.at band s)

  -- the place of the module whose queues have a name
  named-same : (place : Place) (ps : List (Standing C)) → place_named place (images ps) ≡ place_named place ps
  named-same place ps =
      ap (λ qs. named_from place 1 (places_of qs)) (take-map (map_module f) MODULES ps) ∙ ap (λ places. named_from place 1 places) (places-forget f (take MODULES ps))

module _ {C : Type 0} (cells : Cells C) (are : AreCells cells) where
  abbrev f : C → ℕ
  f = cells.byte

  acts-same : (K : Behaviour) (here : Spot) (made : ℕ) (again : Bool) (left : ℕ) (p : Standing C) → (module_serves K plain here made again (Some left) (map_module f p)).acted ≡ map_acted f (map_module f) (module_serves K cells here made again (Some left) p).acted
  acts-same K here made again left p = ap (λ (t : Serving ℕ (Standing ℕ)). t.acted) ((calls-lawfully K p cells here made again).forgets are left)

  bytes-same : (K : Behaviour) (here : Spot) (made : ℕ) (again : Bool) (left : ℕ) (p : Standing C) → (module_serves K plain here made again (Some left) (map_module f p)).bytes ≡ (module_serves K cells here made again (Some left) p).bytes
  bytes-same K here made again left p = ap (λ (t : Serving ℕ (Standing ℕ)). t.bytes) ((calls-lawfully K p cells here made again).forgets are left)

  again-same : (K : Behaviour) (here : Spot) (made : ℕ) (again : Bool) (left : ℕ) (p : Standing C) → (module_serves K plain here made again (Some left) (map_module f p)).again ≡ (module_serves K cells here made again (Some left) p).again
  again-same K here made again left p = ap (λ (t : Serving ℕ (Standing ℕ)). t.again) ((calls-lawfully K p cells here made again).forgets are left)

  -- one call, and what it sent
  called-same : (K : Behaviour) (here : Spot) (again : Bool) (left : ℕ) (s : State C) → module_called K plain here again left (map_state f s) ≡ map_took f (map_state f) (module_called K cells here again left s)
  called-same K here again left s =
      let ps = (stream here.side s).modules in
      let made = made_below here.side s in
      ap (λ (t : Stream ℕ). module_acted here (call_at K plain here (made_below here.side (map_state f s)) again left t.modules) (map_state f s)) (stream-forgets f here.side s)
      ∙ ap (λ t. module_acted here t (map_state f s))
      (acts-forget f (λ p. (module_serves K cells here made again (Some left) p).acted) (λ p. (module_serves K plain here made again (Some left) p).acted)
      (acts-same K here made again left) (here.at - 1) ps)
      ∙ acted-same f here (call_at K cells here made again left ps) s

  sent-same : (K : Behaviour) (t : Took C (State C)) → in_turn (carried (put_in K plain) HOPS) (map (map_parcel f) t.sent) (map_state f t.state) ≡ map_carried f (map_state f) (in_turn (carried (put_in K cells) HOPS) t.sent t.state)
  sent-same K t = in_turn-agrees f (map_state f) (carried (put_in K cells) HOPS) (carried (put_in K plain) HOPS) (carried-agrees f (map_state f) (put_in K cells) (put_in K plain) (puts-forget cells are K) HOPS) t.sent t.state

  -- what a call and those behind it come to
  abbrev went_on : {E : Type 0} → Bool → ℕ → Took E (State E) → Carried E (State E) → Calls E → Calls E
  went_on again bytes t u v =
      cond again (record { state = v.state; gone = t.gone ++ u.gone ++ v.gone; bytes = bytes + v.bytes; ended = v.ended })
      (record { state = u.state; gone = t.gone ++ u.gone; bytes = bytes; ended = true })

  went_on-same : (again : Bool) (bytes : ℕ) (t : Took C (State C)) (u : Carried C (State C)) (v : Calls C)
      → went_on again bytes (map_took f (map_state f) t) (map_carried f (map_state f) u) (map_calls f v) ≡ map_calls f (went_on again bytes t u v)
  went_on-same true bytes t u v =
      ap (λ gone. record { state = map_state f v.state; gone = gone; bytes = bytes + v.bytes; ended = v.ended })
      (ap (λ gone. gone ++ map (map_fate f) v.gone) (sym (map-join (map_fate f) t.gone u.gone)) ∙ sym (map-join (map_fate f) (t.gone ++ u.gone) v.gone))
  went_on-same false bytes t u v =
      ap (λ gone. record { state = map_state f u.state; gone = gone; bytes = bytes; ended = true }) (sym (map-join (map_fate f) t.gone u.gone))

  calls-same : (K : Behaviour) (here : Spot) (n : ℕ) (again : Bool) (left : ℕ) (s : State C) → calls K plain here n again left (map_state f s) ≡ map_calls f (calls K cells here n again left s)
  calls-same K here zero again left s = refl
  calls-same K here (suc more) again left s =
      let ps = (stream here.side s).modules in
      let made = made_below here.side s in
      let t = module_called K cells here again left s in
      let u = in_turn (carried (put_in K cells) HOPS) t.sent t.state in
      let bytes = bytes_at K cells here made again left ps in
      let goes = again_at K cells here made again left ps in
      let next : Bool → ℕ → Took ℕ (State ℕ) → Calls ℕ = λ b n x. (let y = in_turn (carried (put_in K plain) HOPS) x.sent x.state in went_on b n x y (calls K plain here more true (left - n) y.state)) in
      ap (λ (on : Stream ℕ). next (again_at K plain here (made_below here.side (map_state f s)) again left on.modules) (bytes_at K plain here (made_below here.side (map_state f s)) again left on.modules) (module_called K plain here again left (map_state f s))) (stream-forgets f here.side s)
      ∙ ap (λ b. next b (bytes_at K plain here made again left (map (map_module f) ps)) (module_called K plain here again left (map_state f s)))
      (at_place-same f (λ p. (module_serves K cells here made again (Some left) p).again) (λ p. (module_serves K plain here made again (Some left) p).again) (again-same K here made again left) false here.at ps)
      ∙ ap (λ n. next goes n (module_called K plain here again left (map_state f s)))
      (at_place-same f (λ p. (module_serves K cells here made again (Some left) p).bytes) (λ p. (module_serves K plain here made again (Some left) p).bytes) (bytes-same K here made again left) 0 here.at ps)
      ∙ ap (λ x. next goes bytes x) (called-same K here again left s)
      ∙ ap (λ (y : Carried ℕ (State ℕ)). went_on goes bytes (map_took f (map_state f) t) y (calls K plain here more true (left - bytes) y.state)) (sent-same K t)
      ∙ ap (λ v. went_on goes bytes (map_took f (map_state f) t) (map_carried f (map_state f) u) v)
      (calls-same K here more true (left - bytes) u.state)
      ∙ went_on-same goes bytes t u (calls K cells here more true (left - bytes) u.state)

  -- a turn that treats bytes
  abbrev moved_so : {E : Type 0} → QueueName → Spot → Calls E → State E → TurnOutcome E
  moved_so name here t s =
      cond t.ended (record { turn = Moved t.bytes; state = module_turn_ended name here (not (t.bytes == 0)) t.state; gone = t.gone }) (stayed_put Blocked s)

  moved-same : (K : Behaviour) (here : Spot) (name : QueueName) (bytes : ℕ) (s : State C) → moved_on K plain here name bytes (map_state f s) ≡ map_turn_outcome f (moved_on K cells here name bytes s)
  moved-same K here name bytes s =
      let t = calls K cells here (3 * bytes + 1) false bytes s in
      ap (λ x. moved_so name here x (map_state f s)) (calls-same K here (3 * bytes + 1) false bytes s)
      ∙ either-same f t.ended (record { turn = Moved t.bytes; state = module_turn_ended name here (not (t.bytes == 0)) t.state; gone = t.gone }) (stayed_put Blocked s) _ _
      (ap (λ x. record { turn = Moved t.bytes; state = x; gone = map (map_fate f) t.gone }) (turn_ended-same f name here (not (t.bytes == 0)) t.state)) refl

  within-same : (K : Behaviour) (here : Spot) (name : QueueName) (turn : Turn) (s : State C) → moved_within K plain here name turn (map_state f s) ≡ map_turn_outcome f (moved_within K cells here name turn s)
  within-same K here name turn s =
      let ps = (stream here.side s).modules in
      let size = at_place (λ p. first_size (messages_at here.way p)) 0 here.at ps in
      ap (λ (t : Stream ℕ). moved_on K plain here name (min (moved_by turn) (at_place (λ p. first_size (messages_at here.way p)) 0 here.at t.modules)) (map_state f s)) (stream-forgets f here.side s)
      ∙ ap (λ n. moved_on K plain here name (min (moved_by turn) n) (map_state f s))
      (at_place-same f (λ p. first_size (messages_at here.way p)) (λ p. first_size (messages_at here.way p)) (size-same f here.way) 0 here.at ps)
      ∙ moved-same K here name (min (moved_by turn) size) s

  asked-turn-same : (K : Behaviour) (here : Spot) (asks : Asks) (name : QueueName) (turn : Turn) (s : State C) → asked_turn K plain here asks name turn (map_state f s) ≡ map_turn_outcome f (asked_turn K cells here asks name turn s)
  asked-turn-same K here asked.Empty name turn s = stayed-same f Idle here s
  asked-turn-same K here asked.Held name turn s = stayed-same f Blocked here s
  asked-turn-same K here asked.Free name turn s = within-same K here name turn s
  asked-turn-same K here (asked.Room band) name turn s =
      let room = has_room_past here.side here.way here.at band.0 s in
      ap (λ b. cond b (moved_within K plain here name turn (map_state f s)) (waits_there band.0 here (map_state f s))) (room-forgets f here.side here.way here.at band.0 s)
      ∙ either-same f room (moved_within K cells here name turn s) (waits_there band.0 here s) _ _ (within-same K here name turn s) (waits-same f band.0 here s)

  there-same : (K : Behaviour) (here : Spot) (name : QueueName) (turn : Turn) (s : State C) → turned_there K plain here name turn (map_state f s) ≡ map_turn_outcome f (turned_there K cells here name turn s)
  there-same K here name turn s =
      let ps = (stream here.side s).modules in
      let rests = at_place module_rests false here.at ps in
      let asks = at_place (module_asks K cells here.way) asked.Empty here.at ps in
      let image = map_state f s in
      rw (
        stream-forgets f here.side s,
        at_place-same f module_rests module_rests (λ p. ((lawful p).image f).rests) false here.at ps,
        at_place-same f (module_asks K cells here.way) (module_asks K plain here.way) (asks-lawfully K cells here.way) asked.Empty here.at ps,
      )
      (either-same f rests (asked_turn K cells here asks name turn s) (stayed_put Blocked s) _ _ (asked-turn-same K here asks name turn s) refl)

  turned_named-same : (K : Behaviour) (name : QueueName) (turn : Turn) (s : State C) (at : Option ℕ) → turned_named K plain name turn (map_state f s) at ≡ map_turn_outcome f (turned_named K cells name turn s at)
  turned_named-same K name turn s None = refl
  turned_named-same K name turn s (Some at) = there-same K (record { side = name.side; at = at; way = name.way }) name turn s

  pub module_turned-forgets : (K : Behaviour) (name : QueueName) (turn : Turn) (s : State C) → module_turned K plain name turn (map_state f s) ≡ map_turn_outcome f (module_turned K cells name turn s)
  module_turned-forgets K name turn s =
      rw (stream-forgets f name.side s, named-same f name.place (stream name.side s).modules) (turned_named-same K name turn s (place_named name.place (stream name.side s).modules))
