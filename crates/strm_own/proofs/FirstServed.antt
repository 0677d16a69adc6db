-- The first message of a queue is taken, and the module does with it what it does with one that comes.
use Rattle.strm_own.proofs.Prelude.{ℕ, ◌≡◌, ◌≤◌, Bool, false, true, List, [], ◌++◌, refl, sym, ap, subst, ◌∙◌, arith, None, Some}
use Rattle.std.specs.Bool.{OnTrue}
use Rattle.std.specs.Prelude.{sum_by}
use Rattle.strm_own.specs.Prelude.{StoreValue, IsInHand, IsStore, QueuePair, Own, Fates, Acted, Message, Spot, Way, Up, Down, HasRoom, sent_of}
use Rattle.strm_own.specs.Prelude.{message_in, times_sent, parcels_in, AreChains}
use Rattle.strm_types.specs.declared.spots.Asks.{Asks}
use Rattle.strm_types.specs.Budgets.{cost_of, emits_at, most, next_at, own_at}
use Rattle.strm_types.specs.Cells.{plain}
use Rattle.strm_types.specs.Message.{size_of}
use Rattle.strm_types.specs.OwnStands.{OwnActs, own_asked, own_asks, own_served, own_serves}
use Rattle.strm_types.specs.Queue.{left_with}
use Rattle.strm_types.specs.Service.{acts_alone}
use Rattle.strm_types.specs.Shapes.{Asking, Shape, shape_of}
use Rattle.strm_types.specs.Standings as stands
use Rattle.strm_types.specs.Tables.{own_does}
use Rattle.strm_types.proofs.CostsOf.{most-few}
use Rattle.strm_laws.specs.Behaviours.{Behaviour, own_by}
use Rattle.strm_laws.proofs.TurnOrder.{made-all}
use Rattle.strm_frame.specs.declared.modules.Acts.{Acts}
use Rattle.strm_frame.specs.declared.service.Served.{Served}
use Rattle.strm_frame.specs.Hands.{Handles}
use Rattle.strm_frame.specs.Queued.{TakesFirst, TakesNone}
use Rattle.strm_frame.specs.Serves.{later_cost}
use Rattle.strm_frame.specs.Standings.{Fits, pair_in, queues_own, standing}
use Rattle.strm_frame.proofs.Handing.{no-parts, no-room, none-chains, none-hands, once-self, still-hands}
use Rattle.strm_frame.proofs.Letting.{own-on}
use Rattle.strm_frame.proofs.WidePools.{frees-spends, room-left}
use Rattle.strm_own.specs.OwnPuts.{OwnPuts}
use Rattle.strm_own.specs.Stands.{HasQueues, IsHeld, PutsThere, ServesThere, turn_room}
use Rattle.strm_own.proofs.Queueing.{puts-alone}
use Rattle.strm_own.proofs.Waking.{notes-woken, notes_anew}

-- no put takes a block beside those that it frees, and the delivery of what it sends takes no more than a turn may count on
pub own-none : (way : Way) (shape : Shape) → (own_does way shape).own ≡ 0
own-none Up shape = refl
own-none Down Asking = refl
own-none Down shape = refl

emits-few : (here : Spot) (way : Way) (shape : Shape) → sum_by most (emits_at here (own_does way shape)) ≤ turn_room
emits-few here Down Asking = omega arith
emits-few here way shape = omega (arith, most-few (next_at here (way, shape)))

never : (b : Bool) (P : Type 0) → b ≡ false → OnTrue b P
never b P is = subst (λ v. OnTrue v P) (sym is) tt

-- what was taken is in hand
pub taken-in-hand : (s t : StoreValue) (pair pair' : QueuePair) (way : Way) (i : ℕ) → IsStore t → TakesFirst s t pair pair' way i → IsInHand t i
taken-in-hand s t pair pair' way i st taken = let c = taken.hands.counts i in let o = once-self i in let few = st.apart i in omega arith

-- nothing stands there, and nothing is done
module _ (own : OwnActs ℕ) (s t : StoreValue) (x : Own) (pair pair' : QueuePair) (here : Spot) (served : Served) (f : Fates) where
  pub serves-none : HasQueues x (Some pair) → TakesNone s t pair pair' here.way → served.acts.notes.items ≡ [] → sent_of served.acts.sent ≡ []
      → served.bytes ≡ 0 → served.stopped ≡ false → served.again ≡ false
      → ServesThere s t x (Some pair) x (Some pair') served f f
      (own_served own here (stands.stood x (Some (pair_in s pair))) (pair_in s pair) (stands.way_queue here.way (pair_in s pair)).messages)
  serves-none has taken notes sent bytes stopped again =
      subst (λ ms. ServesThere s t x (Some pair) x (Some pair') served f f (own_served own here (stands.stood x (Some (pair_in s pair))) (pair_in s pair) ms))
      (sym taken.none)
      (record {
        state = ap (λ p. stands.stood x (Some p)) taken.state;
        notes = notes;
        sent = no-parts t (sent_of served.acts.sent) sent;
        told = refl;
        bytes = bytes;
        again = again;
        stopped = never served.stopped _ stopped;
        stops = never served.stopped _ stopped;
        some = never served.stopped _ stopped;
        made = omega arith;
        held = record { queues = taken.ready; itself = has };
        own = taken.own;
        chains = none-chains t (sent_of served.acts.sent) sent;
        hands = none-hands s t (λ _. 0) (λ _. 0) (λ _. 0) (sent_of served.acts.sent) sent
            (subst (λ v. Handles s v (λ _. 0) (λ _. 0) (λ _. 0) (λ _. 0)) (sym taken.same) (still-hands s (λ _. 0)));
        room = subst (λ b. HasRoom t (later_cost b turn_room (parcels_in t (sent_of served.acts.sent)))) (sym again)
            (no-room t turn_room (sent_of served.acts.sent) sent);
        pool = record { mblks = ap (λ v. v.mblks) taken.same; dblks = ap (λ v. v.dblks) taken.same };
      })

module _ (K : Behaviour) (s t u : StoreValue) (x y : Own) (pair pair' : QueuePair) (here : Spot) (i : ℕ) (acts : Acts) (served : Served) (f f' : Fates)
    (st : IsStore t) (has : HasQueues x (Some pair)) (taken : TakesFirst s t pair pair' here.way i) (noted : acts.notes.items ≡ [])
    (did : OwnPuts t u y i (own_at own_does here (message_in t i)) acts.sent f f' (K.puts plain here (message_in t i) x)) where
  abbrev own : OwnActs ℕ
  own = own_by K plain

  abbrev m : Message ℕ
  m = message_in t i

  abbrev p : stands.QueuePair ℕ
  p = pair_in s pair

  abbrev rest : List (Message ℕ)
  rest = (stands.way_queue here.way (pair_in t pair')).messages

  abbrev is : Acted ℕ Own
  is = K.puts plain here m x

  there : PutsThere t u x (Some pair') y (Some pair') i (own_at own_does here m) acts f f'
      (acts_alone (λ o. K.puts plain here m o) (stands.stood x (Some (pair_in t pair'))))
  there =
      let owes = K.put plain here m x in
      puts-alone t u x y (Some pair') i (own_at own_does here m) acts f f' (λ o. K.puts plain here m o) did noted owes.notes owes.number has taken.ready

  -- the queue of the way has what was left of it
  stands-so : stands.stood y (Some (pair_in u pair')) ≡ stands.stood is.state (Some (stands.pair_changed here.way (left_with rest) p))
  stands-so = there.state ∙ ap (λ q. stands.stood is.state (Some q)) taken.state

  hands-on : Handles s u (λ _. 0) (λ _. 0) (λ _. 0) (λ j. times_sent j (sent_of acts.sent))
  hands-on = record {
    counts = λ j. let a = taken.hands.counts j in let b = did.hands.counts j in omega arith;
    others = λ j gone kept some.
        let a = taken.hands.counts j in let few = st.apart j in
        did.hands.others j (omega arith) refl (omega arith) ∙ taken.hands.others j refl refl some;
  }

  -- a turn has the blocks for what is sent
  room-on : HasRoom s turn_room → HasRoom u (later_cost false turn_room (parcels_in u (sent_of acts.sent)))
  room-on room =
      let between = room-left s t turn_room 0 turn_room (omega arith) room (frees-spends s t taken.pool taken.frees 0) in
      let most_own = own-none here.way (shape_of m) in
      let behind = room-left t u turn_room (own_at own_does here m) turn_room (omega (arith, most_own)) between did.spends in
      let within = (K.put plain here m x).within most in
      let few = emits-few here here.way (shape_of m) in
      let same = ap (cost_of most) did.sent in
      record { mblks = omega (arith, behind.mblks, within, few, same); dblks = omega (arith, behind.dblks, within, few, same) }

  pub serves-first : (read write : Asks) → read ≡ own_asked own Up x (stands.way_queue Up p).messages → write ≡ own_asked own Down x (stands.way_queue Down p).messages
      → HasRoom s turn_room → served.acts.sent ≡ acts.sent
      → served.acts.notes.items ≡ acts.notes.items ++ notes_anew own read write (stands.stood y (Some (pair_in u pair')))
      → served.bytes ≡ size_of m → served.stopped ≡ false → served.again ≡ false
      → ServesThere s u x (Some pair) y (Some pair') served f f'
      (own_served own here (stands.stood x (Some p)) p (stands.way_queue here.way p).messages)
  serves-first read write up down room same woken bytes stopped again =
      let was = stands.stood x (Some p) in
      let owes = K.put plain here m x in
      subst (λ ms. ServesThere s u x (Some pair) y (Some pair') served f f' (own_served own here was p ms)) (sym taken.first)
      (record {
        state = stands-so;
        notes = woken ∙ ap (λ ns. ns ++ notes_anew own read write (stands.stood y (Some (pair_in u pair')))) (noted ∙ sym owes.notes)
            ∙ ap (λ ns. is.notes ++ ns) (notes-woken own was (stands.stood y (Some (pair_in u pair'))) read write up down)
            ∙ ap (λ z. is.notes ++ notes_anew own (own_asks own Up was) (own_asks own Down was) z) stands-so;
        sent = ap (λ o. parcels_in u (sent_of o)) same ∙ did.sent;
        told = did.told;
        bytes = bytes;
        again = again;
        stopped = never served.stopped _ stopped;
        stops = never served.stopped _ stopped;
        some = never served.stopped _ stopped;
        made = omega (arith, made-all is.gone, owes.none_made (λ dir c. true));
        held = there.held;
        own = own-on s t u (queues_own (Some pair)) (queues_own (Some pair')) (queues_own (Some pair')) taken.own there.own;
        chains = subst (λ o. AreChains u (sent_of o)) (sym same) did.chains;
        hands = subst (λ o. Handles s u (λ _. 0) (λ _. 0) (λ _. 0) (λ j. times_sent j (sent_of o))) (sym same) hands-on;
        room = subst (λ o. HasRoom u (later_cost served.again turn_room (parcels_in u (sent_of o)))) (sym same)
            (subst (λ b. HasRoom u (later_cost b turn_room (parcels_in u (sent_of acts.sent)))) (sym again) (room-on room));
        pool = record { mblks = did.pool.mblks ∙ taken.pool.mblks; dblks = did.pool.dblks ∙ taken.pool.dblks };
      })

-- without queues nothing is done
pub serves-bare : (s : StoreValue) (x : Own) (here : Spot) (served : Served) (f : Fates) (own : OwnActs ℕ) → Fits IsHeld s (standing x None)
    → served.acts.notes.items ≡ [] → sent_of served.acts.sent ≡ [] → served.bytes ≡ 0 → served.stopped ≡ false → served.again ≡ false
    → ServesThere s s x None x None served f f (own_serves own here (stands.stood x None))
serves-bare s x here served f own held notes sent bytes stopped again = record {
  state = refl;
  notes = notes;
  sent = no-parts s (sent_of served.acts.sent) sent;
  told = refl;
  bytes = bytes;
  again = again;
  stopped = never served.stopped _ stopped;
  stops = never served.stopped _ stopped;
  some = never served.stopped _ stopped;
  made = omega arith;
  held = held;
  own = record { lists = λ k none. refl; owns_same = λ k. refl };
  chains = none-chains s (sent_of served.acts.sent) sent;
  hands = none-hands s s (λ _. 0) (λ _. 0) (λ _. 0) (sent_of served.acts.sent) sent (still-hands s (λ _. 0));
  room = subst (λ b. HasRoom s (later_cost b turn_room (parcels_in s (sent_of served.acts.sent)))) (sym again)
      (no-room s turn_room (sent_of served.acts.sent) sent);
  pool = record { mblks = refl; dblks = refl };
}
