-- What modules do: a side's stack changes with the lists that it owns and the messages that it keeps, and all else stays.
use Rattle.strm_pair.proofs.Prelude.{ℕ, zero, suc, ◌≡◌, ◌≤◌, ◌<◌, ◌+◌, ◌-◌, List, length, map, refl, sym, ap, subst, ◌∙◌, arith, ◌*◌, ◌^◌}
use Rattle.strm_pair.proofs.Prelude.{slice_index_or, Option, None, get-map, get-set-same, between-counts, made-within, made_in, master-told}
use Rattle.strm_pair.proofs.Prelude.{slave-told, noted-same, keep-names, ready-same}
use Rattle.strm_pair.specs.Prelude.{Book, Both, Dir, MasterToSlave, SlaveToMaster, Place, QueueName, Side, Way, Fates, Note, Spot, plain, Acted, Fate}
use Rattle.strm_pair.specs.Prelude.{Took, tallied, places_of, made_of, Message, at_place, set, other, earlier_at, module_acted, noted, put_at_module}
use Rattle.strm_pair.specs.Prelude.{spare, spare_behind, EachOnce, module_takes, Standing, module_name, State, Stream, book, stream, with_stream}
use Rattle.strm_pair.specs.Prelude.{IsStore, StoreValue, list_at, queue_in, HoldsReadable, Acts, AreIn, CanPut, Handles, OnlyOwn, SamePool, Spends}
use Rattle.strm_pair.specs.Prelude.{once, message_in, sent_of, times_sent, Behaviour}
use Rattle.strm_laws.specs.Puts.{made_above}
use Rattle.strm_laws.specs.Spares.{module_packs, packet_most}
use Rattle.strm_laws.proofs.Booked.{booked-on}
use Rattle.strm_laws.proofs.PlainPuts.{among-same}
use Rattle.strm_laws.proofs.StackSpares.{among-makes, among-one, spare-fits}
use Rattle.strm_pair.specs.declared.ends.StreamEnd.{StreamEnd}
use Rattle.strm_pair.specs.declared.streams.Streams.{Streams}
use Rattle.strm_pair.specs.Framing.{for-same, kept-parts, kept-with}
use Rattle.strm_pair.specs.Lists.{first_list}
use Rattle.strm_pair.specs.Pairs.{state_in, end_at, with_end, AreBeside, Stays, kept_by}
use Rattle.strm_pair.specs.ModuleServed.{BookTakes, between, with_more}
use Rattle.strm_pair.specs.PutBy.{PutBy, StackTakes, taken_at}
use Rattle.strm_pair.specs.Streams.{stream_in, IsSide}
use Rattle.strm_pair.proofs.Sides.{OtherStays, modules-are, never-both, one-beside, one-state, queue-same, stream-is}
use Rattle.strm_pair.specs.Stacks.{modules_in, IsStackHeld, stack_owns, stack_keeps, Stack}

-- modules of the same names
abbrev pub SameNames : (ps qs : List (Standing ℕ)) → Type 0
SameNames ps qs = map module_name ps ≡ map module_name qs

-- what isn't above nothing is nothing
none : (n : ℕ) → (0 < n → ⊥) → n ≡ 0
none zero not = refl
none (suc n) not = absurd (not (omega arith))

module _ (s t : StoreValue) (first : ℕ) (e : StreamEnd) (x : Stack) (is : IsSide s first e) (own : OnlyOwn s t (stack_owns e.stack) (stack_owns x)) where
  -- a list that isn't one of those for the modules of this side
  apart : (k : ℕ) → (first + 2 ≤ k → k < first + 2 + 6 → ⊥) → list_at t k ≡ list_at s k
  apart k away = own.lists k (none (stack_owns e.stack k) (λ some. let within = is.lists.owned k some in away within.0 within.1))

  head-apart : list_at t e.head.queue.list ≡ list_at s e.head.queue.list
  head-apart = apart e.head.queue.list (λ low high. let l = is.head_list in absurd (omega (arith, l, low)))

  driver-apart : list_at t e.driver.list ≡ list_at s e.driver.list
  driver-apart = apart e.driver.list (λ low high. let l = is.driver_list in absurd (omega (arith, l, low)))

  stack-side : IsStackHeld t x → SameNames (modules_in t x) (modules_in s e.stack) → IsSide t first (record e { stack = x })
  stack-side held names = record {
    head_list = is.head_list;
    driver_list = is.driver_list;
    head = record { ready = ready-same s t e.head.queue head-apart is.head.ready; readable = subst HoldsReadable (sym head-apart) is.head.readable };
    driver = ready-same s t e.driver driver-apart is.driver;
    stack = held;
    once = subst EachOnce (sym names) is.once;
    lists = let same = for-same s (first + 2) (stack_owns e.stack) (stack_owns x) own.owns_same is.lists in record {
      owned = same.owned;
      closed = same.closed;
      spare = λ k low high none. let was : stack_owns e.stack k ≡ 0 = sym (own.owns_same k) ∙ none in own.lists k was ∙ is.lists.spare k low high was;
    };
  }

  stack-stream : (ms : List (Standing ℕ)) → modules_in t x ≡ ms → stream_in t (record e { stack = x }) ≡ record (stream_in s e) { modules = ms }
  stack-stream ms state =
      ap (λ h. record (stream_in t (record e { stack = x })) { head = record (stream_in s e).head { queue = h } }) (queue-same s t e.head.queue head-apart)
      ∙ ap (λ l. record (stream_in s e) { modules = l; driver = record { queue = queue_in t e.driver } }) state
      ∙ ap (λ d. record (stream_in s e) { modules = ms; driver = record { queue = d } }) (queue-same s t e.driver driver-apart)

-- what the other side's stack keeps stays, as it is apart from what goes and from what this one keeps
pub other-stays : (side : Side) (s t : StoreValue) (p : Streams) (gone keeps sent : ℕ → ℕ) → IsStore s → AreIn s gone (kept_by p)
    → Handles s t gone (stack_keeps (end_at side p).stack) keeps sent → SamePool s t → Stays s t (stack_keeps (end_at (other side) p).stack)
other-stays side s t p gone keeps sent store can hands pool = record {
  mblks = pool.mblks;
  dblks = pool.dblks;
  kept = λ i some.
      let parts = kept-parts side p i in
      hands.others i (omega (arith, can.apart i, store.apart i, some, parts)) (omega (arith, can.apart i, store.apart i, some, parts)) (omega (arith, can.apart i, some, parts));
}

-- what both stacks keep
pub joint-hands : (side : Side) (s t : StoreValue) (p : Streams) (x : Stack) (gone sent : ℕ → ℕ)
    → Handles s t gone (stack_keeps (end_at side p).stack) (stack_keeps x) sent → Handles s t gone (kept_by p) (kept_by (with_end side (record (end_at side p) { stack = x }) p)) sent
joint-hands side s t p x gone sent hands =
    let e = record (end_at side p) { stack = x } in
    record {
      counts = λ i. omega (arith, hands.counts i, kept-parts side p i, kept-with side e p i);
      others = λ i none kept some. hands.others i none (omega (arith, kept, kept-parts side p i)) some;
    }

module _ (s t : StoreValue) (p : Streams) (x : Stack) (beside : AreBeside s p) where
  -- the stack of a side changed
  module _ (side : Side) (own : OnlyOwn s t (stack_owns (end_at side p).stack) (stack_owns x)) (stays : Stays s t (stack_keeps (end_at (other side) p).stack)) where
    elsewhere : OtherStays s t p beside side
    elsewhere = record {
      lists = λ k low high. apart s t (first_list side) (end_at side p) x (beside side) own k (λ above below. never-both side k (omega (arith, above)) (omega (arith, below)) low high);
      keeps = stays;
    }

    pub stack-changed : IsStackHeld t x → SameNames (modules_in t x) (modules_in s (end_at side p).stack) → AreBeside t (with_end side (record (end_at side p) { stack = x }) p)
    stack-changed held names = one-beside s t p beside side (record (end_at side p) { stack = x }) (stack-side s t (first_list side) (end_at side p) x (beside side) own held names) elsewhere

    pub stack-state : (ms : List (Standing ℕ)) → modules_in t x ≡ ms → state_in t (with_end side (record (end_at side p) { stack = x }) p) ≡ with_stream side (record (stream side (state_in s p)) { modules = ms }) (state_in s p)
    stack-state ms state =
        one-state s t p beside side (record (end_at side p) { stack = x }) (record (stream_in s (end_at side p)) { modules = ms })
        (stack-stream s t (first_list side) (end_at side p) x (beside side) own ms state) elsewhere
        ∙ ap (λ (y : Stream ℕ). with_stream side (record y { modules = ms }) (state_in s p)) (sym (stream-is s p side))

-- the modules of a side whose stack is another one
pub stack-modules : (side : Side) (t : StoreValue) (p : Streams) (x : Stack) (names : List QueueName) (books : Both Book)
    → (stream side (state_in t (record (with_end side (record (end_at side p) { stack = x }) p) { enabled = names; books = books }))).modules ≡ modules_in t x
stack-modules side t p x names books =
    let e = record (end_at side p) { stack = x } in
    ap (λ (y : Stream ℕ). y.modules) (get-map (stream_in t) side (set side e p.ends) ∙ ap (stream_in t) (get-set-same side e p.ends))

-- A stack acted at a place: the streams stand for what its modules did, what they said of their queues is noted, and what they made is booked.
pub record ActsIn (s t : StoreValue) (p q : Streams) (gone sent : ℕ → ℕ) (is : State ℕ) : Type 0 where
  pub state : state_in t q ≡ is
  pub beside : AreBeside t q
  pub hands : Handles s t gone (kept_by p) (kept_by q) sent

module _ (s t : StoreValue) (p q : Streams) (x : Stack) (here : Spot) (gone sent : ℕ → ℕ) where
  abbrev st : State ℕ
  st = state_in s p

  abbrev old : Stack
  old = (end_at here.side p).stack

  pub stack-acts : (did : Acted ℕ (List (Standing ℕ))) (place : Option Place) (earlier : Way → Option QueueName) (notes : List Note) (m n : ℕ) → IsStore s → AreIn s gone (kept_by p) → AreBeside s p
      → place ≡ slice_index_or (places_of (stream here.side st).modules) (here.at - 1) None → ((way : Way) → earlier way ≡ earlier_at here.side here.at st way)
      → modules_in t x ≡ did.state → notes ≡ did.notes → SameNames did.state (stream here.side st).modules → IsStackHeld t x → OnlyOwn s t (stack_owns old) (stack_owns x)
      → Handles s t gone (stack_keeps old) (stack_keeps x) sent → SamePool s t → m ≡ made_in MasterToSlave did.gone → n ≡ made_in SlaveToMaster did.gone
      → q ≡ record (with_end here.side (record (end_at here.side p) { stack = x }) p) {
        enabled = noted here.side place earlier notes p.enabled;
        books = with_more m n p.books;
      }
      → ActsIn s t p q gone sent (module_acted here did st).state
  stack-acts did place earlier notes m n store can beside place_is earlier_is state notes_is names held own hands pool m_is n_is q_is =
      let stays = other-stays here.side s t p gone (stack_keeps x) sent store can hands pool in
      let queues = noted here.side place earlier notes p.enabled in
      let queued = noted here.side (slice_index_or (places_of (stream here.side st).modules) (here.at - 1) None) (earlier_at here.side here.at st) did.notes p.enabled in
      let queues_are : queues ≡ queued =
      ap (λ ns. noted here.side place earlier ns p.enabled) notes_is
      ∙ ap (λ pl. noted here.side pl earlier did.notes p.enabled) place_is
      ∙ noted-same here.side (slice_index_or (places_of (stream here.side st).modules) (here.at - 1) None) earlier (earlier_at here.side here.at st) earlier_is did.notes p.enabled in
      let booked_at : ℕ → ℕ → List QueueName → State ℕ → State ℕ = λ a b ns v. record v { enabled = ns; books = with_more a b p.books } in
      let on : Stream ℕ = record (stream here.side st) { modules = did.state } in
      let same = ap (λ ls. map module_name ls) state ∙ names ∙ ap (λ ls. map module_name ls) (modules-are s p here.side) in
      record {
        state = ap (λ y. state_in t y) q_is
            ∙ ap (booked_at m n queues) (stack-state s t p x beside here.side own stays did.state state)
            ∙ ap (λ ns. booked_at m n ns (with_stream here.side on st)) queues_are
            ∙ ap (λ a. booked_at a n queued (with_stream here.side on st)) m_is
            ∙ ap (λ b. booked_at (made_in MasterToSlave did.gone) b queued (with_stream here.side on st)) n_is
            ∙ sym (booked-on here.side on queued did.gone st);
        beside = subst (λ y. AreBeside t y) (sym q_is) (stack-changed s t p x beside here.side own stays held same);
        hands = subst (λ y. Handles s t gone (kept_by p) (kept_by y) sent) (sym q_is) (joint-hands here.side s t p x gone sent hands);
      }

-- a module takes the message
pub module-by : (K : Behaviour) (s t : StoreValue) (p q : Streams) (x : Stack) (i : ℕ) (to : Spot) (place : Option Place) (earlier : Way → Option QueueName) (acts : Acts) (f f' : Fates) (a b : ℕ)
    → let m = message_in s i in let st = state_in s p in let ms = (stream to.side st).modules in IsStore s → CanPut s i (kept_by p)
    → place ≡ slice_index_or (places_of ms) (to.at - 1) None → ((way : Way) → earlier way ≡ earlier_at to.side to.at st way) → AreBeside s p
    → StackTakes K s t (end_at to.side p).stack x i to acts f f' → a ≡ made_in MasterToSlave (taken_at K to m ms).gone → b ≡ made_in SlaveToMaster (taken_at K to m ms).gone
    → q ≡ record (with_end to.side (record (end_at to.side p) { stack = x }) p) {
      enabled = noted to.side place earlier acts.notes.items p.enabled;
      books = with_more a b p.books;
    }
    → PutBy s t p q i (at_place (module_takes to m) 0 to.at ms) (sent_of acts.sent) f f' (put_at_module K plain to m st)
module-by K s t p q x i to place earlier acts f f' a b store can place_is earlier_is beside e a_is b_is q_is =
    let m = message_in s i in
    let st = state_in s p in
    let ms = (stream to.side st).modules in
    let same = sym (modules-are s p to.side) in
    let did = taken_at K to m ms in
    let r = stack-acts s t p q x to (once i) (λ j. times_sent j (sent_of acts.sent)) did place earlier acts.notes.items a b store can beside place_is earlier_is
    (e.state ∙ ap (λ ls. (taken_at K to m ls).state) same) (e.notes ∙ ap (λ ls. (taken_at K to m ls).notes) same)
    (keep-names K plain 0 (to.at - 1) to m ms)
    e.held e.own e.hands e.pool a_is b_is q_is in
    let books : (Acted ℕ (List (Standing ℕ))) → Took ℕ (State ℕ) = λ t. module_acted to t st in
    subst (λ w. PutBy s t p q i (at_place (module_takes to m) 0 to.at ms) (sent_of acts.sent) f f' w)
    (ap books (among-same K 0 (made_above to.side st) to m (to.at - 1) ms))
    (record {
      state = r.state;
      sent = e.sent ∙ ap (λ ls. (taken_at K to m ls).sent) same;
      tells = e.told ∙ ap (λ ls. tallied (taken_at K to m ls).gone f) same;
      beside = r.beside;
      chains = e.chains;
      hands = r.hands;
      spends = subst (λ ls. Spends s t (at_place (module_takes to m) 0 to.at ls) 0) same e.spends;
      pool = e.pool;
    })

abbrev pub made_told : Dir → Fates → ℕ
made_told MasterToSlave f = f.made_from_master
made_told SlaveToMaster f = f.made_from_slave

-- what a put at a module made, where it fits the books
module _ (to : Spot) (m : Message ℕ) (st : State ℕ) (small : length m.plain ≤ 16777216) where
  abbrev told_of : (K : Behaviour) → List (Fate ℕ)
  told_of K = (taken_at K to m (stream to.side st).modules).gone

  abbrev units : ℕ
  units = at_place (module_packs to m) 0 to.at (stream to.side st).modules

  makes : (K : Behaviour) → made_of (told_of K) ≤ units * packet_most
  makes K = among-makes plain 0 to m small K (to.at - 1) (stream to.side st).modules

  one-unit : units ≤ 1
  one-unit = among-one plain 0 to m small (to.at - 1) (stream to.side st).modules

  put-makes : (K : Behaviour) (units : ℕ) → made_of (told_of K) ≤ units * packet_most → units ≤ 1 → made_of (told_of K) ≤ packet_most
  put-makes K zero most one = omega (arith, most)
  put-makes K (suc zero) most one = omega (arith, most)
  put-makes K (suc (suc n)) most one = absurd (omega (arith, one))

  few-made : (K : Behaviour) → made_of (told_of K) ≤ packet_most
  few-made K = put-makes K units (makes K) one-unit

  takes-by : (K : Behaviour) (units made more : ℕ) → made_of (told_of K) ≤ units * packet_most → units ≤ 1 → units ≤ spare_behind made → more ≤ made_of (told_of K) → BookTakes made more
  takes-by K zero made more most one spare less = λ some. absurd (omega (arith, most, less, some))
  takes-by K (suc zero) made more most one spare less = λ some. (let fits = spare-fits made more spare (omega (arith, most, less)) in omega (arith, fits))
  takes-by K (suc (suc n)) made more most one spare less = absurd (omega (arith, one))

  pub put-fits : (K : Behaviour) → units ≤ spare st → (d : Dir) → BookTakes (book d st).made (made_in d (told_of K))
  put-fits K spare MasterToSlave = takes-by K units (book MasterToSlave st).made (made_in MasterToSlave (told_of K)) (makes K) one-unit (omega (arith, spare)) (omega (arith, made-within (told_of K)))
  put-fits K spare SlaveToMaster = takes-by K units (book SlaveToMaster st).made (made_in SlaveToMaster (told_of K)) (makes K) one-unit (omega (arith, spare)) (omega (arith, made-within (told_of K)))

  -- and the counts tell it
  pub put-between : (K : Behaviour) (d : Dir) (f f' : Fates) → f.made_from_master < 2 ^ 64 → f.made_from_slave < 2 ^ 64 → f' ≡ tallied (told_of K) f → between (made_told d f) (made_told d f') ≡ made_in d (told_of K)
  put-between K MasterToSlave f f' low few is =
      ap (λ (g : Fates). between f.made_from_master g.made_from_master) is
      ∙ ap (between f.made_from_master) (master-told (told_of K) f low)
      ∙ between-counts f.made_from_master (made_in MasterToSlave (told_of K)) low (omega (arith, few-made K, made-within (told_of K)))
  put-between K SlaveToMaster f f' low few is =
      ap (λ (g : Fates). between f.made_from_slave g.made_from_slave) is
      ∙ ap (between f.made_from_slave) (slave-told (told_of K) f few)
      ∙ between-counts f.made_from_slave (made_in SlaveToMaster (told_of K)) few (omega (arith, few-made K, made-within (told_of K)))
