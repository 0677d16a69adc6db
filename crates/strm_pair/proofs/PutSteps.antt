-- Puts at the heads and the drivers of a pair, step by step.
use Rattle.strm_pair.proofs.Prelude.{ℕ, suc, ◌≡◌, ◌≤◌, ◌<◌, ◌+◌, Bool, true, false, cond, List, [], ◌∷◌, refl, sym, ap, subst, ◌∙◌, arith, ◌==◌, ◌&&◌}
use Rattle.strm_pair.proofs.Prelude.{nat_le, Option, None, Some, nat_tests, kind-is, parts-same, own, place-own}
use Rattle.strm_pair.specs.Prelude.{FlushAsked, MsgKind, Flush, Way, Across, EndClosed, driver_put, IsStore, dropped, list_at, token, StoreValue}
use Rattle.strm_pair.specs.Prelude.{in_hand, head_in, down_message, sent_down, queue_in, HoldsReadable, Changes, FreesBlocks, FreesNone, Acts, CanPut}
use Rattle.strm_pair.specs.Prelude.{Handles, Hands, SamePool, Spends, once, HasRoom, Shifts, sent_of, message_in, times_sent, parcels_in, AreChains}
use Rattle.strm_pair.specs.Prelude.{OnlyQueue, Makes, before_head, driver_place, modules_on, QueueName, Side, Up, Down, Fates, Spot, Acted, Parcel}
use Rattle.strm_pair.specs.Prelude.{Took, tallied, toward, Goes, is_data_kind, asked_by, flush_bytes, flush_message, Message, cells_of, has_parts}
use Rattle.strm_pair.specs.Prelude.{is_held, direction_at, enable_some, is_open, IsKeptAhead, across_of, earlier_at, noted, passed_up, put_at_driver}
use Rattle.strm_pair.specs.Prelude.{put_at_head, put_at_module, put_behind, put_below, put_in, is_there, State, stream, with_stream}
use Rattle.strm_pair.specs.Prelude.{with_driver_queue, IsChain, Sent, MODULES, head_takes, FlushR, FlushRW, FlushW, shape_of, driver_own, at_place}
use Rattle.strm_pair.specs.Prelude.{module_takes, Behaviour}
use Rattle.strm_types.specs.declared.kinds.MsgKind.TheVariants.{Ioctl}
use Rattle.strm_types.specs.Cells as cells
use Rattle.strm_types.specs.Queue as plain
use Rattle.strm_head.specs.declared.head.Head as heads
use Rattle.strm_head.specs.Heads.{notes_of}
use Rattle.strm_queue.specs.declared.queue.Queue.{Queue}
use Rattle.strm_frame.proofs.Shifting.{shifts-joined, shifts-spends}
use Rattle.strm_pty.specs.Does.{driver_cost, Swaps}
use Rattle.strm_pair.specs.Pairs.{end_at, with_end, state_in, AreBeside, Stays, kept_by}
use Rattle.strm_pair.proofs.Sides.{driver-changed, driver-state, head-changed, head-state, driver-is, head-is}
use Rattle.strm_types.specs.declared.names.Place.TheVariants as places
use Rattle.strm_types.specs.Heads.{head_put, is_doubled, obeyed, turned_round, waits_for_readers, Head}
use Rattle.strm_head.specs.declared.putting.Down as heads_down
use Rattle.strm_head.specs.declared.putting.Down.TheVariants as downs
use Rattle.strm_frame.proofs.Handing.{one-parts, one-chains}
use Rattle.strm_frame.proofs.Shifting.{shifts-both, shifts-as}
use Rattle.strm_pty.proofs.Doing.{times-one}
use Rattle.strm_pair.specs.declared.streams.Streams.{Streams}
use Rattle.strm_types.specs.Costs.{is_turned, turns_round, up_takes}
use Rattle.strm_types.specs.Shapes.{Shape, flush_shape, is_flushing, shape_by}
use Rattle.strm_types.specs.Tables.{driver_does, head_does}
use Rattle.strm_types.proofs.ShapesOf.{same-flushing}
use Rattle.strm_laws.specs.SideCosts.{behind_costs, rises, side_drives}
use Rattle.strm_pair.specs.Framing.{kept-parts, kept-with, same-state, same-beside}
use Rattle.strm_pair.specs.PutBy.{PutBy, CameBy}
use Rattle.strm_pair.specs.Staying.{ComesToStand}
use Rattle.strm_laws.proofs.PutsOwn.{behind-own, head-own}

-- what a head sends down is nothing where nothing is turned round
sent-nothing : (S : Type 0) (b : Bool) (one another : Acted ℕ S) → one.sent ≡ [] → another.sent ≡ [] → (cond b one another).sent ≡ []
sent-nothing S true one another first second = first
sent-nothing S false one another first second = second

round-none : (here : Spot) (asked : FlushAsked) → asked.for_write ≡ false → turned_round {C = ℕ} here asked ≡ []
round-none here asked is = ap (λ b. cond b (record { to = toward Down here; message = flush_message (flush_bytes (record asked { for_read = false })) } ∷ []) []) is

obeys-none : (here : Spot) (kind : MsgKind) (bytes : List ℕ) (h : Head ℕ) → turns_round kind bytes ≡ false → (obeyed here kind bytes h).sent ≡ []
obeys-none here Flush bytes h is = round-none here (asked_by bytes) is
obeys-none here Ioctl bytes h is = absurd (cc)
obeys-none here kind bytes h is = refl

not-turned : (here : Spot) (m : Message ℕ) (h : Head ℕ) → is_turned m ≡ false → (head_put here m h).sent ≡ []
not-turned here m h is = at (has_parts m)
  where
    at : (parts : Bool) → (cond parts (waits_for_readers here m h) (obeyed here m.kind m.plain h)).sent ≡ []
    at true = sent-nothing (Head ℕ) (is_doubled m h.queue.messages) _ _ refl refl
    at false = obeys-none here m.kind m.plain h is

pub reached-sent : (side : Side) (here : Spot) (m : Message ℕ) (s : State ℕ) → is_turned m ≡ false → (put_at_head side here m s).sent ≡ []
reached-sent side here m s is = either (is_open (stream side s).opened) _ _ (not-turned here m (stream side s).head is) refl
  where
    either : (b : Bool) (one another : Took ℕ (State ℕ)) → one.sent ≡ [] → another.sent ≡ [] → (cond b one another).sent ≡ []
    either true one another first second = first
    either false one another first second = second

-- it is a message without parts
pub down-plain : (d : heads_down.Down) → record { kind = (down_message d).kind; band = 0; control = None; body = None; plain = (down_message d).plain } ≡ down_message d
down-plain (downs.Flush asked) = refl
down-plain (downs.Nak ioc) = refl

down-none : (here : Spot) (down : Option heads_down.Down) → sent_down here down ≡ [] → is_there down ≡ false
down-none here None none = refl
down-none here (Some asked) none = absurd (cc)

down-few : (b : Bool) (down : Option heads_down.Down) → (b ≡ false → is_there down ≡ false) → cond {A = ℕ} (is_there down) 1 0 ≤ cond b 1 0
down-few true None none = omega arith
down-few true (Some asked) none = omega arith
down-few false None none = omega arith
down-few false (Some asked) none = let e = none refl in absurd (cc)

-- it takes a block only where something is turned round
pub down-takes : (side : Side) (here : Spot) (m : Message ℕ) (s : State ℕ) (down : Option heads_down.Down) → sent_down here down ≡ (put_at_head side here m s).sent → cond {A = ℕ} (is_there down) 1 0 ≤ head_takes m
down-takes side here m s down is = down-few (is_turned m) down (λ none. down-none here down (is ∙ reached-sent side here m s none))

pub room-for : (s : StoreValue) (n k : ℕ) → k ≤ n → HasRoom s n → HasRoom s k
room-for s n k le room = record { mblks = omega (arith, room.mblks, le); dblks = omega (arith, room.dblks, le) }

pub room-less : (s t : StoreValue) (gone come : ℕ → ℕ) (n k : ℕ) → Shifts s t gone come 0 → k ≤ n → HasRoom s n → HasRoom t k
room-less s t gone come n k hands le room = record { mblks = (let a = hands.mblks in let b = room.mblks in omega arith); dblks = (let a = hands.dblks in let b = room.dblks in omega arith) }

-- what goes and comes in hand, where the stacks keep what they did
handled : (s t : StoreValue) (m n : ℕ) (come kept keeps : ℕ → ℕ) → ((i : ℕ) → keeps i ≡ kept i) → Shifts s t (once m) come n → Handles s t (once m) kept keeps come
handled s t m n come kept keeps same hands = record {
  counts = λ i. omega (arith, hands.counts i, same i);
  others = λ i none k some. hands.others i none some;
}

spent : (s t : StoreValue) (gone come : ℕ → ℕ) (n k : ℕ) → n ≤ k → Shifts s t gone come n → Spends s t k 0
spent s t gone come n k le hands =
    let b = shifts-spends s t gone come n hands in
    record { mblks = omega (arith, b.mblks, le); dblks = omega (arith, b.dblks, le) }

-- what is kept is in hand, beside the message that is put
put-stays : (s t : StoreValue) (m n : ℕ) (come keeps : ℕ → ℕ) → IsStore s → CanPut s m keeps → Shifts s t (once m) come n → Stays s t keeps
put-stays s t m n come keeps store can hands = record {
  mblks = hands.pool.mblks;
  dblks = hands.pool.dblks;
  kept = λ i some. hands.others i (omega (arith, can.apart i, store.apart i, some)) (omega (arith, can.apart i, some));
}

-- and where more is made behind it
made-stays : (s t u : StoreValue) (m n k : ℕ) (come more keeps : ℕ → ℕ) → CanPut s m keeps → Shifts s t (once m) come n → Shifts t u (λ _. 0) more k → Stays t u keeps
made-stays s t u m n k come more keeps can first second = record {
  mblks = second.pool.mblks;
  dblks = second.pool.dblks;
  kept = λ i some. second.others i refl (omega (arith, can.apart i, first.counts i, some));
}

can-alone : (s : StoreValue) (m : ℕ) (keeps : ℕ → ℕ) → CanPut s m keeps → CanPut s m (λ _. 0)
can-alone s m keeps can = record { apart = λ i. omega (arith, can.apart i) }

-- the stacks stay where a head changes, or a driver
kept-head : (p : Streams) (side : Side) (h : heads.Head) (i : ℕ) → kept_by (with_end side (record (end_at side p) { head = h }) p) i
    ≡ kept_by p i
kept-head p side h i = kept-with side (record (end_at side p) { head = h }) p i ∙ sym (kept-parts side p i)

kept-driver : (p : Streams) (side : Side) (d : Queue) (i : ℕ) → kept_by (with_end side (record (end_at side p) { driver = d }) p) i
    ≡ kept_by p i
kept-driver p side d i = kept-with side (record (end_at side p) { driver = d }) p i ∙ sym (kept-parts side p i)

-- a waiting writer is let go where the head says so
noted-room : (side : Side) (earlier : Way → Option QueueName) (lets_go : Bool) (names : List QueueName) → noted side (Some places.Head) earlier (notes_of lets_go) names ≡ enable_some lets_go (earlier Up) names
noted-room side earlier true names = refl
noted-room side earlier false names = refl

-- a message that comes to a side that isn't open
pub closed-is : (side : Side) (here : Spot) (m : Message ℕ) (s : State ℕ) → is_open (stream side s).opened ≡ false
    → put_at_head side here m s ≡ record { state = s; sent = []; gone = Goes (direction_at Up side) EndClosed (cells_of m) ∷ [] }
closed-is side here m s closed = rw closed refl

-- what a put at an open head leads to, by what the head does
abbrev at_head : Side → State ℕ → Acted ℕ (Head ℕ) → Took ℕ (State ℕ)
at_head side s t = record {
  state = record (with_stream side (record (stream side s) { head = t.state }) s) { enabled = noted side (Some places.Head) (earlier_at side 0 s) t.notes s.enabled };
  sent = t.sent;
  gone = t.gone;
}

open-is : (side : Side) (here : Spot) (m : Message ℕ) (s : State ℕ) → is_open (stream side s).opened ≡ true → put_at_head side here m s ≡ at_head side s (head_put here m (stream side s).head)
open-is side here m s opened = rw opened refl

module _ (side : Side) (s t : StoreValue) (p : Streams) (h : heads.Head) (i : ℕ) (to : Spot) (m : Message ℕ) (lets_go : Bool) (down : Option heads_down.Down) (f f' : Fates) where
  -- what the head did
  abbrev Did : Acted ℕ (Head ℕ)
  Did = head_put to m (head_in s (end_at side p).head)

  abbrev behind : Streams
  behind = record (with_end side (record (end_at side p) { head = h }) p) { enabled = enable_some lets_go (before_head side (state_in s p)) p.enabled }

  came-at : IsStore s → CanPut s i (kept_by p) → AreBeside s p → head_in t h ≡ Did.state → notes_of lets_go ≡ Did.notes → sent_down to down ≡ Did.sent → f' ≡ tallied Did.gone f
      → Changes (dropped s i) t (end_at side p).head.queue h.queue → HoldsReadable (list_at t h.queue.list) → FreesBlocks s t → (is_held (message_in s i).kind ≡ true → FreesNone s t) → CameBy s t p behind i (sent_down to down) f f' (at_head side (state_in s p) Did)
  came-at store can beside state notes sent told changes readable frees none =
      let only : OnlyQueue s t (end_at side p).head.queue h.queue = record { ready = changes.ready; list = changes.list; others = changes.others } in
      let hands = shifts-joined s t i (end_at side p).head.queue h.queue store (can-alone s i (kept_by p) can) changes frees in
      let stays = put-stays s t i 0 (λ _. 0) (kept_by p) store can hands in
      let st = state_in s p in
      record {
        state = ap (λ (x : State ℕ). record x { enabled = enable_some lets_go (before_head side st) p.enabled })
            (head-state s t p beside stays side h only ∙ ap (λ x. with_stream side (record (stream side st) { head = x }) st) state)
            ∙ ap (λ ns. record (with_stream side (record (stream side st) { head = Did.state }) st) { enabled = ns })
            (sym (noted-room side (earlier_at side 0 st) lets_go p.enabled) ∙ ap (λ n. noted side (Some places.Head) (earlier_at side 0 st) n p.enabled) notes);
        down_is = sent;
        tells = told;
        beside = head-changed s t p beside stays side h only readable;
        keeps = kept-head p side h;
        hands = hands;
        blocks = none;
      }

  pub came-by : (q : Streams) → to.side ≡ side → IsStore s → CanPut s i (kept_by p) → AreBeside s p → is_open (stream to.side (state_in s p)).opened ≡ true
      → head_in t h ≡ Did.state → notes_of lets_go ≡ Did.notes → sent_down to down ≡ Did.sent → f' ≡ tallied Did.gone f
      → Changes (dropped s i) t (end_at side p).head.queue h.queue → HoldsReadable (list_at t h.queue.list) → FreesBlocks s t → (is_held (message_in s i).kind ≡ true → FreesNone s t)
      → q ≡ behind
      → CameBy s t p q i (sent_down to down) f f' (put_at_head to.side to m (state_in s p))
  came-by q is store can beside opened state notes sent told changes readable frees none q_is =
      let st = state_in s p in
      let here : put_at_head to.side to m st ≡ at_head side st Did =
      open-is to.side to m st opened ∙ ap (λ sd. at_head sd st (head_put to m (stream sd st).head)) is ∙ ap (λ x. at_head side st (head_put to m x)) (head-is s p side) in
      subst (λ w. CameBy s t p q i (sent_down to down) f f' w) (sym here)
      (subst (λ x. CameBy s t p x i (sent_down to down) f f' (at_head side st Did)) (sym q_is) (came-at store can beside state notes sent told changes readable frees none))

-- what comes to stand at a head comes to one that is open
pub head-open : (to : Spot) (m : Message ℕ) (s : State ℕ) → to.at ≡ 0 → ComesToStand s to m → is_open (stream to.side s).opened ≡ true
head-open to m s top is = at to.way is.below is.kept
  where
    at : (way : Way) → (way ≡ Down → 0 < to.at) → IsKeptAhead way to.side s → is_open (stream to.side s).opened ≡ true
    at Up below kept = kept.opened
    at Down below kept = let some = below refl in absurd (omega (arith, some, top))

-- a put at a driver, by what the driver does at its place
abbrev at_driver : Side → ℕ → State ℕ → Acted ℕ (plain.Queue ℕ) → Took ℕ (State ℕ)
at_driver side at s t = record {
  state = record (with_stream side (with_driver_queue t.state (stream side s)) s) { enabled = noted side (Some places.Driver) (earlier_at side at s) t.notes s.enabled };
  sent = t.sent;
  gone = t.gone;
}

-- a driver takes no more than its table says of a message of that kind, and so does a head
either-flush : (P : Shape → Type 0) → P FlushR → P FlushW → P FlushRW → (asked : FlushAsked) → P (flush_shape asked)
either-flush P r w rw asked = at asked.for_write asked.for_read
  where
    at : (write read : Bool) → P (cond write (cond read FlushRW FlushW) FlushR)
    at true true = rw
    at true false = w
    at false read = r

kind-low : (way : Way) (kind : MsgKind) (bytes : List ℕ) → driver_cost way kind ≤ (driver_does way (shape_by (is_data_kind kind) kind bytes)).own
unfolding is_data_kind
kind-low Down Flush bytes = either-flush (λ s. 2 ≤ (driver_does Down s).own) (omega arith) (omega arith) (omega arith) (asked_by bytes)
kind-low Down Ioctl bytes = omega arith
kind-low Up Flush bytes = omega arith
kind-low Down kind bytes = omega arith
kind-low Up kind bytes = omega arith

kind-turned : (kind : MsgKind) (bytes : List ℕ) → cond (turns_round kind bytes) 1 0 ≤ (head_does (shape_by (is_data_kind kind) kind bytes)).own
unfolding is_data_kind
kind-turned Flush bytes = at (asked_by bytes).for_write (asked_by bytes).for_read
  where
    at : (write read : Bool) → cond write 1 0 ≤ (head_does (cond write (cond read FlushRW FlushW) FlushR)).own
    at true true = omega arith
    at true false = omega arith
    at false read = omega arith
kind-turned Ioctl bytes = omega arith
kind-turned kind bytes = omega arith

module _ (s : StoreValue) (i : ℕ) (chain : IsChain (in_hand s i)) where
  parts-of : has_parts (message_in s i) ≡ is_data_kind (message_in s i).kind
  parts-of = parts-same (in_hand s i) chain ∙ ap is_data_kind (sym (kind-is (in_hand s i)))

  cost-low : (way : Way) → driver_cost way (message_in s i).kind ≤ driver_own way (message_in s i)
  cost-low way =
      let m = message_in s i in
      subst (λ b. driver_cost way m.kind ≤ (driver_does way (shape_by b m.kind m.plain)).own) (sym parts-of) (kind-low way m.kind m.plain)

  pub turned-low : head_takes (message_in s i) ≤ (head_does (shape_of (message_in s i))).own
  turned-low =
      let m = message_in s i in
      subst (λ b. head_takes m ≤ (head_does (shape_by b m.kind m.plain)).own) (sym parts-of) (kind-turned m.kind m.plain)

pub driver-room : (way : Way) (s : StoreValue) (i : ℕ) → IsChain (in_hand s i) → HasRoom s (driver_own way (message_in s i)) → HasRoom s (driver_cost way (message_in s i).kind)
driver-room way s i chain room =
    let low = cost-low s i chain way in
    record { mblks = (let a = room.mblks in omega (arith, a, low)); dblks = (let a = room.dblks in omega (arith, a, low)) }

-- the driver takes the message
pub driver-by : (side : Side) (s t : StoreValue) (p q : Streams) (d : Queue) (i : ℕ) (to : Spot) (at : ℕ) (across : Across) (acts : Acts) (f f' : Fates)
    → let m = message_in s i in let st = state_in s p in let did = driver_put to.side across (record to { at = at }) m (queue_in s (end_at side p).driver) in
    IsStore s → CanPut s i (kept_by p) → IsChain (in_hand s i) → to.side ≡ side → at ≡ driver_place to.side st → across ≡ across_of to.side st → AreBeside s p → queue_in t d ≡ did.state → acts.notes.items ≡ did.notes → parcels_in t (sent_of acts.sent) ≡ did.sent
    → f' ≡ tallied did.gone f → OnlyQueue s t (end_at side p).driver d → AreChains t (sent_of acts.sent) → Hands s t i (λ _. 0) (λ _. 0) (λ j. times_sent j (sent_of acts.sent))
    → Spends s t (driver_cost to.way m.kind) 0 → SamePool s t
    → q ≡ record (with_end side (record (end_at side p) { driver = d }) p) { enabled = noted side (Some places.Driver) (earlier_at side at st) acts.notes.items p.enabled }
    → PutBy s t p q i (driver_own to.way m) (sent_of acts.sent) f f' (put_at_driver to.side to m st)
driver-by side s t p q d i to at across acts f f' store can chain is at_is across_is beside state notes sent told only chains hands spends pool q_is =
    let m = message_in s i in
    let st = state_in s p in
    let queue = queue_in s (end_at side p).driver in
    let did = driver_put to.side across (record to { at = at }) m queue in
    let names = noted side (Some places.Driver) (earlier_at side at st) acts.notes.items p.enabled in
    let low = cost-low s i chain to.way in
    let stays : Stays s t (kept_by p) = record {
      mblks = pool.mblks;
      dblks = pool.dblks;
      kept = λ j some. hands.others j (omega (arith, can.apart j, store.apart j, some)) refl (omega (arith, can.apart j, some));
    } in
    let there = driver_place to.side st in
    let here : at_driver side at st did ≡ put_at_driver to.side to m st =
    ap (λ n. at_driver side n st (driver_put to.side across (record to { at = n }) m queue)) at_is
    ∙ ap (λ x. at_driver side there st (driver_put to.side x (record to { at = there }) m queue)) across_is
    ∙ ap (λ x. at_driver side there st (driver_put to.side (across_of to.side st) (record to { at = there }) m x)) (sym (driver-is s p side))
    ∙ ap (λ sd. at_driver sd there st (driver_put to.side (across_of to.side st) (record to { at = there }) m (stream sd st).driver.queue)) (sym is) in
    subst (λ w. PutBy s t p q i (driver_own to.way m) (sent_of acts.sent) f f' w) here
    (record {
      state = ap (λ x. state_in t x) q_is
          ∙ ap (λ (x : State ℕ). record x { enabled = names }) (driver-state s t p beside stays side d only ∙ ap (λ x. with_stream side (with_driver_queue x (stream side st)) st) state)
          ∙ ap (λ ns. record (with_stream side (with_driver_queue did.state (stream side st)) st) { enabled = ns })
          (ap (λ n. noted side (Some places.Driver) (earlier_at side at st) n p.enabled) notes);
      sent = sent;
      tells = told;
      beside = subst (λ x. AreBeside t x) (sym q_is) (driver-changed s t p beside stays side d only);
      chains = chains;
      hands = record {
        counts = λ j. omega (arith, hands.counts j, ap (λ x. kept_by x j) q_is ∙ kept-driver p side d j);
        others = λ j none kept some. hands.others j none refl some;
      };
      spends = record { mblks = omega (arith, spends.mblks, low); dblks = omega (arith, spends.dblks, low) };
      pool = pool;
    })

-- a message goes, and the streams stay
pub swaps-put : (s t : StoreValue) (p : Streams) (m n k : ℕ) (made : List Sent) (ps : List (Parcel ℕ)) (f f' : Fates)
    (is : Took ℕ (State ℕ))
    → IsStore s → CanPut s m (kept_by p) → AreBeside s p → Swaps s t m n made ps → n ≤ k → state_in s p ≡ is.state → ps ≡ is.sent → f' ≡ tallied is.gone f → PutBy s t p p m k made f f' is
swaps-put s t p m n k made ps f f' is store can beside swaps le stays sends tells =
    let kept = put-stays s t m n (λ i. times_sent i made) (kept_by p) store can swaps.hands in
    record {
      state = same-state s t swaps.lists p beside kept ∙ stays;
      sent = swaps.sent ∙ sends;
      tells = tells;
      beside = same-beside s t swaps.lists p beside kept;
      chains = swaps.chains;
      hands = handled s t m n (λ i. times_sent i made) (kept_by p) (kept_by p) (λ i. refl) swaps.hands;
      spends = spent s t (once m) (λ i. times_sent i made) n k le swaps.hands;
      pool = swaps.hands.pool;
    }

-- the message itself goes on
pub passed-put : (s : StoreValue) (p : Streams) (x : Sent) (sent_on : List Sent) (f : Fates) (to : Spot) → AreBeside s p → IsChain (in_hand s (token x.message)) → x.to ≡ record to { at = modules_on to.side (state_in s p) } → sent_on ≡ x ∷ []
    → PutBy s s p p (token x.message) 0 sent_on f f (passed_up to (message_in s (token x.message)) (state_in s p))
passed-put s p x sent_on f to beside chain on one = record {
  state = refl;
  sent = one-parts s x sent_on one ∙ ap (λ spot. record { to = spot; message = message_in s (token x.message) } ∷ []) on;
  tells = refl;
  beside = beside;
  chains = one-chains s x sent_on one chain;
  hands = record { counts = λ i. let o = times-one i x sent_on one in omega arith; others = λ i none kept some. refl };
  spends = record { mblks = omega arith; dblks = omega arith };
  pool = record { mblks = refl; dblks = refl };
}

-- what takes no more than so much takes no more than what is more
put-more : (s t : StoreValue) (p q : Streams) (m takes all : ℕ) (sent_on : List Sent) (f f' : Fates) (is : Took ℕ (State ℕ)) → takes
    ≤ all
    → PutBy s t p q m takes sent_on f f' is → PutBy s t p q m all sent_on f f' is
put-more s t p q m takes all sent_on f f' is low put = record {
  state = put.state;
  sent = put.sent;
  tells = put.tells;
  beside = put.beside;
  chains = put.chains;
  hands = put.hands;
  spends = record { mblks = omega (arith, put.spends.mblks, low); dblks = omega (arith, put.spends.dblks, low) };
  pool = put.pool;
}

-- a put at a spot
abbrev PutIn : (s t : StoreValue) (p q : Streams) (i : ℕ) (to : Spot) (sent_on : List Sent) (f f' : Fates) → Took ℕ (State ℕ) → Type 0
PutIn s t p q i to sent_on f f' is = PutBy s t p q i (own to (shape_of (message_in s i)) (state_in s p)) sent_on f f' is

-- at the head
pub head-room : (s : StoreValue) (i : ℕ) (to : Spot) (st : State ℕ) → IsChain (in_hand s i) → to.at ≡ 0 → HasRoom s (own to (shape_of (message_in s i)) st) → HasRoom s (head_takes (message_in s i))
head-room s i to st chain top room =
    let m = message_in s i in
    let at : (to.at == 0) ≡ true = grind (arith, nat_tests) in
    room-for s (own to (shape_of m) st) (head_takes m) (omega (arith, turned-low s i chain, head-own to (shape_of m) st at)) room

pub head-put : (K : Behaviour) (s t : StoreValue) (p q : Streams) (i : ℕ) (to : Spot) (sent_on : List Sent) (f f' : Fates) → let m = message_in s i in IsChain (in_hand s i) → to.at ≡ 0
    → PutBy s t p q i (head_takes m) sent_on f f' (put_at_head to.side to m (state_in s p)) → PutIn s t p q i to sent_on f f' (put_in K cells.plain to m (state_in s p))
head-put K s t p q i to sent_on f f' chain top put =
    let m = message_in s i in
    let st = state_in s p in
    let at : (to.at == 0) ≡ true = grind (arith, nat_tests) in
    subst (λ b. PutIn s t p q i to sent_on f f' (cond b (put_at_head to.side to m st) (put_below K cells.plain to.way to m st))) (sym at)
    (put-more s t p q i (head_takes m) (own to (shape_of m) st) sent_on f f' (put_at_head to.side to m st) (omega (arith, turned-low s i chain, head-own to (shape_of m) st at)) put)

-- below the head, by whether a module stands at the place
below-put : (K : Behaviour) (s t : StoreValue) (p q : Streams) (i : ℕ) (to : Spot) (sent_on : List Sent) (f f' : Fates) (stands : Bool) → let m = message_in s i in let st = state_in s p in
    (to.at ≡ 0 → ⊥) → nat_le to.at (modules_on to.side st) ≡ stands
    → PutIn s t p q i to sent_on f f' (cond stands (put_at_module K cells.plain to m st) (put_behind to.way to m st)) → PutIn s t p q i to sent_on f f' (put_in K cells.plain to m st)
below-put K s t p q i to sent_on f f' stands inside place put =
    let m = message_in s i in
    let st = state_in s p in
    let below : (to.at == 0) ≡ false = grind (arith, nat_tests) in
    subst (λ b. PutIn s t p q i to sent_on f f' (cond b (put_at_head to.side to m st) (put_below K cells.plain to.way to m st))) (sym below)
    (subst (λ b. PutIn s t p q i to sent_on f f' (cond b (put_at_module K cells.plain to m st) (put_behind to.way to m st))) (sym place) put)

pub module-put : (K : Behaviour) (s t : StoreValue) (p q : Streams) (i : ℕ) (to : Spot) (sent_on : List Sent) (f f' : Fates) → let m = message_in s i in let st = state_in s p in
    let ms = (stream to.side st).modules in (to.at ≡ 0 → ⊥) → nat_le to.at (modules_on to.side st) ≡ true
    → PutBy s t p q i (at_place (module_takes to m) 0 to.at ms) sent_on f f' (put_at_module K cells.plain to m st)
    → PutIn s t p q i to sent_on f f' (put_in K cells.plain to m st)
module-put K s t p q i to sent_on f f' inside stands put =
    let m = message_in s i in
    let st = state_in s p in
    let below : (to.at == 0) ≡ false = grind (arith, nat_tests) in
    below-put K s t p q i to sent_on f f' true inside stands
    (put-more s t p q i (at_place (module_takes to m) 0 to.at (stream to.side st).modules) (own to (shape_of m) st) sent_on f f' (put_at_module K cells.plain to m st) (omega (arith, place-own to m st below stands)) put)

-- behind the modules
abbrev pub behind_takes : Way → Spot → Message ℕ → ℕ
behind_takes Down to m = driver_own Down m
behind_takes Up to m = up_takes to m

behind-is : (way : Way) (to : Spot) (m : Message ℕ) (st : State ℕ) → to.way ≡ way → (to.at ≡ 0 → ⊥) → nat_le to.at (modules_on to.side st) ≡ false → own to (shape_of m) st ≡ behind_takes way to m
behind-is way to m st is inside past =
    let below : (to.at == 0) ≡ false = grind (arith, nat_tests) in
    behind-own to (shape_of m) st below past ∙ ap (λ (w : Way). (behind_costs (modules_on to.side st) w to.at (shape_of m)).own) is ∙ at way
  where
    up : (across : Bool) → (cond across (side_drives (modules_on to.side st) (driver_does Up (shape_of m))) (record { own = 0; emits = rises (modules_on to.side st) (shape_of m) ∷ []; across = [] })).own ≡ cond across 1 0
    up true = refl
    up false = refl

    at : (way : Way) → (behind_costs (modules_on to.side st) way to.at (shape_of m)).own ≡ behind_takes way to m
    at Down = refl
    at Up = up (is_flushing (shape_of m) && to.at == suc MODULES) ∙ ap (λ (b : Bool). cond {A = ℕ} (b && to.at == suc MODULES) 1 0) (same-flushing m)

pub behind-room : (way : Way) (s : StoreValue) (i : ℕ) (to : Spot) (st : State ℕ) → to.way ≡ way → (to.at ≡ 0 → ⊥) → nat_le to.at (modules_on to.side st) ≡ false
    → HasRoom s (own to (shape_of (message_in s i)) st) → HasRoom s (behind_takes way to (message_in s i))
behind-room way s i to st is inside past room = subst (λ (n : ℕ). HasRoom s n) (behind-is way to (message_in s i) st is inside past) room

pub behind-put : (K : Behaviour) (way : Way) (s t : StoreValue) (p q : Streams) (i : ℕ) (to : Spot) (sent_on : List Sent) (f f' : Fates) → let m = message_in s i in let st = state_in s p in
    to.way ≡ way → (to.at ≡ 0 → ⊥) → nat_le to.at (modules_on to.side st) ≡ false
    → PutBy s t p q i (behind_takes way to m) sent_on f f' (put_behind way to m st) → PutIn s t p q i to sent_on f f' (put_in K cells.plain to m st)
behind-put K way s t p q i to sent_on f f' is inside past put =
    let m = message_in s i in
    let st = state_in s p in
    below-put K s t p q i to sent_on f f' false inside past
    (put-more s t p q i (behind_takes way to m) (own to (shape_of m) st) sent_on f f' (put_behind to.way to m st) (omega (arith, behind-is way to m st is inside past))
    (subst (λ w. PutBy s t p q i (behind_takes way to m) sent_on f f' (put_behind w to m st)) (sym is) put))

-- what a head sends down is made
pub came-put : (s t u : StoreValue) (p q : Streams) (m n k : ℕ) (down : List (Parcel ℕ)) (made : List Sent) (f f' : Fates)
    (is : Took ℕ (State ℕ))
    → CanPut s m (kept_by p) → CameBy s t p q m down f f' is → Makes t u n made down → n ≤ k → PutBy s u p q m k made f f' is
came-put s t u p q m n k down made f f' is can came makes le =
    let can' : CanPut s m (kept_by q) = record { apart = λ i. omega (arith, can.apart i, came.keeps i) } in
    let stays = made-stays s t u m 0 n (λ _. 0) (λ i. times_sent i made) (kept_by q) can' came.hands makes.hands in
    let all = shifts-as s u (λ i. once m i + 0) (λ i. 0 + times_sent i made) (once m) (λ i. times_sent i made) (0 + n) k
    (shifts-both s t u (once m) (λ _. 0) (λ _. 0) (λ i. times_sent i made) 0 n came.hands makes.hands) (λ i. omega arith) (λ i. omega arith) (omega arith) in
    record {
      state = same-state t u makes.lists q came.beside stays ∙ came.state;
      sent = makes.sent ∙ came.down_is;
      tells = came.tells;
      beside = same-beside t u makes.lists q came.beside stays;
      chains = makes.chains;
      hands = handled s u m k (λ i. times_sent i made) (kept_by p) (kept_by q) came.keeps all;
      spends = spent s u (once m) (λ i. times_sent i made) k k (omega arith) all;
      pool = all.pool;
    }
