-- What toys do, step by step.
use Rattle.std.specs.Prelude.{IfSome, is_some, min, sum_by}
use Rattle.std.proofs.lemmas.Bool.{false≢true}
use Rattle.std.proofs.Common.{ℕ, zero, suc, ◌+◌, ◌≡◌, ◌<◌, ◌≤◌, ◌==◌, eqb, true, false, Bool, List, [], ◌∷◌, Option, Some, None, ◌∙◌, cond, ap, refl, subst, sym, arith}
use Rattle.strm_types.specs.declared.kinds.MsgKind.{MsgKind}
use Rattle.strm_types.specs.declared.names.ModuleName.{ModuleName}
use Rattle.strm_types.specs.declared.names.Way.{Way}
use Rattle.strm_types.specs.declared.names.Way.TheVariants.{Up, Down}
use Rattle.strm_types.specs.declared.spots.Spot.{Spot}
use Rattle.strm_types.specs.Deliver.{toward}
use Rattle.strm_types.specs.Standings as plain
use Rattle.strm_types.specs.Standings.{messages_on, stood}
use Rattle.strm_types.specs.Queue.{first_size}
use Rattle.std.proofs.lemmas.Bool.Decides.{nat_tests}
use Rattle.strm_types.specs.Message.{Message}
use Rattle.strm_types.specs.declared.kinds.MsgKind.TheVariants as kinds
use Rattle.strm_blocks.specs.Blocks.{Held, StoreValue, IsStore, in_hand, block_at, dropped, times_in, token}
use Rattle.strm_blocks.proofs.Laws.{in_hand-dropped}
use Rattle.strm_queue.specs.declared.queue.Queue.{Queue}
use Rattle.strm_queue.specs.Stored.{Changes, FreesBlocks, Dequeued, queue_in}
use Rattle.strm_msg.specs.Made.{MadeOf, copies_of, pieces}
use Rattle.strm_msg.proofs.Chains.{kind-is}
use Rattle.strm_msg.proofs.Hands.{stays-chain}
use Rattle.std.proofs.lemmas.List.Sums.{sum_by-cons}
use Rattle.strm_frame.specs.declared.parcels.Sent.{Sent}
use Rattle.strm_types.specs.Budgets.{beyond, budget, cost_of, most}
use Rattle.strm_types.specs.Shapes.{Shape}
use Rattle.strm_types.proofs.CostsOf.{most-few}
use Rattle.strm_frame.specs.Outboxes.{message_in, spot_in, times_sent, parcels_in}
use Rattle.strm_frame.specs.Serves.{later_cost}
use Rattle.strm_frame.specs.Hands.{once, OnlyOwn, CanPut, Handles, Hands, SameFor, HasRoom, Spends, Takes}
use Rattle.strm_frame.proofs.Handing.{alone-can, once-apart}
use Rattle.strm_frame.proofs.FirstSizes.{first-few}
use Rattle.strm_frame.proofs.Shifting.{shifts-joined}
use Rattle.strm_tests.specs.Toys.{Stock, count_costs, counts, stays, stocked, stocks, turns, idle, stock_sends, serves_of, stock_serves}
use Rattle.strm_frame.specs.declared.queue_pair.QueuePair.{QueuePair}
use Rattle.strm_frame.specs.Standings.{IsPairReady, pair_in, queues_in, queues_own}
use Rattle.strm_frame.proofs.Pairs.{write-own, write-pair, write-ready}

-- at the top nothing is sent on, and before it the message goes up
pub counts-top : (to : Spot) (m : Message ℕ) (n : ℕ) → to.at ≡ 0 → (counts to m n).sent ≡ []
counts-top to m n top =
    let yes : (to.at == 0) ≡ true = grind (arith, nat_tests) in
    rw yes refl

pub counts-on : (to : Spot) (m : Message ℕ) (n : ℕ) → (to.at ≡ 0 → ⊥) → (counts to m n).sent ≡ record { to = toward Up to; message = m } ∷ []
counts-on to m n below =
    let no : (to.at == 0) ≡ false = grind (arith, nat_tests) in
    rw no refl

-- the only message of a store may be put
pub made-alone : (s t : StoreValue) (i : ℕ) (bytes : List ℕ) → s.hand ≡ [] → MadeOf s t i kinds.Data 0 bytes → CanPut t i (λ _. 0)
made-alone s t i bytes none m =
    let chain = copies_of m.made.numbers (pieces kinds.Data 0 bytes) in
    alone-can t i chain (λ _. 0) (ap (λ v. v.hand) m.made.after ∙ ap (λ h. record { name = i; chain = chain } ∷ h) none) (λ j. refl)

-- the message is freed, and the others stay
pub freed-same : (s : StoreValue) (i : ℕ) (keeps : ℕ → ℕ) → IsStore s → CanPut s i keeps → SameFor s (dropped s i) keeps
freed-same s i keeps st can =
    record {
      lists = refl;
      mblks = refl;
      dblks = refl;
      kept = λ j some. let a = can.apart j in let few = st.apart j in in_hand-dropped s i j (once-apart i j (omega arith));
    }

-- nothing but the write queue's list changes, whatever is in hand
module _ (s t : StoreValue) (hand : List Held) (pair : QueuePair) (ready : IsPairReady s pair) (q : Queue) (c : Changes (record s { hand = hand }) t pair.write q) where
  abbrev from : StoreValue
  from = record s { hand = hand }

  ready-from : IsPairReady from pair
  ready-from = record {
    read = record { messages = ready.read.messages; counted = ready.read.counted };
    write = record { messages = ready.write.messages; counted = ready.write.counted };
    apart = ready.apart;
  }

  pub changed-pair : pair_in t (record pair { write = q }) ≡ record (pair_in s pair) { write = queue_in t q }
  changed-pair = write-pair from t pair ready-from q c

  pub changed-ready : IsPairReady t (record pair { write = q })
  changed-ready = write-ready from t pair ready-from q c

  pub changed-own : OnlyOwn s t (queues_own (Some pair)) (queues_own (Some (record pair { write = q })))
  changed-own = let own = write-own from t pair ready-from q c in record { lists = own.lists; owns_same = own.owns_same }

-- it has queues, and they are ready
pub never-bare : (queues : Option QueuePair) → queues ≡ None → is_some queues ≡ true → ⊥
never-bare queues none some = false≢true (sym (ap is_some none) ∙ some)

pub pair-ready : (s : StoreValue) (queues : Option QueuePair) (pair : QueuePair) → queues ≡ Some pair → IfSome queues (IsPairReady s) → IsPairReady s pair
pair-ready s queues pair is ready = subst (λ o. IfSome o (IsPairReady s)) is ready

-- a message that stays, and one that doesn't
pub kind-stays : (s : StoreValue) (i : ℕ) (way : Way) (kind : MsgKind) (answer is : Bool) → kind ≡ (block_at 0 (in_hand s i)).kind → answer ≡ stays kind way → answer ≡ is → stays (message_in s i).kind way ≡ is
kind-stays s i way kind answer is seen asked so = ap (λ k. stays k way) (kind-is (in_hand s i) ∙ sym seen) ∙ sym asked ∙ so

pub stocks-stay : (here : Spot) (m : Message ℕ) (name : ModuleName) (pair : plain.QueuePair ℕ) → stays m.kind here.way ≡ true → stocks here m (stood name (Some pair)) ≡ stocked m name pair
stocks-stay here m name pair is = ap (λ v. cond v (stocked m name pair) (turns here m (stood name (Some pair)))) is

pub stocks-on : (here : Spot) (m : Message ℕ) (x : Stock) → stays m.kind here.way ≡ false → stocks here m x ≡ turns here m x
stocks-on here m x is = by x.queues
  where
    by : (queues : Option (plain.QueuePair ℕ)) → stocks here m (stood x.part queues) ≡ turns here m (stood x.part queues)
    by None = refl
    by (Some pair) = ap (λ v. cond v (stocked m x.part pair) (turns here m (stood x.part (Some pair)))) is

pub joined-hands : (s t : StoreValue) (i : ℕ) (q q' : Queue) → IsStore s → CanPut s i (λ _. 0) → Changes (dropped s i) t q q' → FreesBlocks s t → Hands s t i (λ _. 0) (λ _. 0) (λ _. 0)
joined-hands s t i q q' st can is frees =
    let h = shifts-joined s t i q q' st can is frees in
    record { counts = λ j. let c = h.counts j in omega arith; others = λ j apart kept some. h.others j apart some }

-- the lists of a module's queues are its own
pub owned-by : (s t : StoreValue) (queues : Option QueuePair) (pair : QueuePair) (own : ℕ → ℕ) → queues ≡ Some pair → OnlyOwn s t (queues_own (Some pair)) own → OnlyOwn s t (queues_own queues) own
owned-by s t queues pair own is only = subst (λ o. OnlyOwn s t (queues_own o) own) (sym is) only

-- the first message on a module's queue isn't long
pub stock-few : (s : StoreValue) (way : Way) (queues : Option QueuePair) → IsStore s → IfSome queues (IsPairReady s) → first_size (messages_on way (queues_in s queues)) ≤ 16777216
stock-few s way None st ready = omega arith
stock-few s Up (Some pair) st ready = first-few s pair.read st ready.read
stock-few s Down (Some pair) st ready = first-few s pair.write st ready.write

-- a service procedure with nothing before it, and one with a message
pub serves-none : (here : Spot) (again : Bool) (stop : Option ℕ) (name : ModuleName) (pair : plain.QueuePair ℕ) → pair.write.messages ≡ []
    → stock_serves here again stop (stood name (Some pair)) ≡ idle (stood name (Some pair))
serves-none here again stop name pair none = ap (serves_of here name pair) none

pub serves-first : (here : Spot) (again : Bool) (stop : Option ℕ) (name : ModuleName) (pair : plain.QueuePair ℕ) (m : Message ℕ) (rest : List (Message ℕ)) → pair.write.messages ≡ m ∷ rest
    → stock_serves here again stop (stood name (Some pair)) ≡ stock_sends here name pair m rest
serves-first here again stop name pair m rest first = ap (serves_of here name pair) first

-- the first message came in hand, and nothing else changed there
pub took-changes : (s t : StoreValue) (q q' : Queue) (i : ℕ) → Dequeued s t q q' i → Changes (record s { hand = record { name = i; chain = in_hand t i } ∷ s.hand }) t q q'
took-changes s t q q' i d = record { ready = d.ready; list = d.list; others = d.others; hand = d.hand; mblks = d.mblks; dblks = d.dblks }

pub took-hands : (s t : StoreValue) (q q' : Queue) (x : Sent) (all : List Sent) → all ≡ x ∷ [] → Dequeued s t q q' (token x.message)
    → Handles s t (λ _. 0) (λ _. 0) (λ _. 0) (λ i. times_sent i all)
unfolding times_sent once
took-hands s t q q' x all one d =
    let n = token x.message in
    record {
      counts = λ j.
          let a = ap (times_in j) d.hand in
          let h = sum_by-cons (λ (y : Held). cond {A = ℕ} (eqb y.name j) 1 0) (record { name = n; chain = in_hand t n }) s.hand in
          let o = ap (times_sent j) one in
          omega arith;
      others = λ j none kept some.
          ap (λ hs. in_hand (record s { hand = hs }) j) d.hand
          ∙ stays-chain s n (in_hand t n) j (λ e. (let f = d.fresh in let w = ap (λ k. times_in k s.hand) e in absurd (omega arith)));
    }

-- there is room still for the one message that a turn sends
pub one-room : (s t : StoreValue) (next : ℕ) (x : Sent) (all : List Sent) → all ≡ x ∷ [] → HasRoom s 8 → FreesBlocks s t → HasRoom t (later_cost false next (parcels_in t all))
unfolding cost_of parcels_in
one-room s t next x all one room frees =
    let e = ap (λ xs. cost_of most (parcels_in t xs)) one in
    let few = most-few (spot_in t x.to (token x.message)) in
    record { mblks = omega (arith, e, few, room.mblks, frees.mblks); dblks = omega (arith, e, few, room.dblks, frees.dblks) }

-- where no block is taken
pub free-takes : (s t : StoreValue) → Spends s t 0 0 → Takes s t 0 0 0 0
free-takes s t spends = record { blocks = spends; spare = omega arith }

pub still-spends : (s : StoreValue) → Spends s s 0 0
still-spends s = record { mblks = omega arith; dblks = omega arith }

-- a counter's message ends at the top
pub count-ends : (hops : ℕ) (to : Spot) (shape : Shape) → to.at < hops → budget count_costs hops (record { to = to; shape = shape }) ≡ 0
unfolding budget
count-ends zero to shape low = absurd (omega (arith, low))
count-ends (suc hops) to shape low = at (to.at == 0) refl (λ some. count-ends hops (toward Up to) shape (omega (arith, some, low)))
  where
    at : (top : Bool) → (to.at == 0) ≡ top → (0 < to.at → budget count_costs hops (record { to = toward Up to; shape = shape }) ≡ 0) → min beyond (0 + sum_by (budget count_costs hops) (cond top [] (record { to = toward Up to; shape = shape } ∷ []))) ≡ 0
    at true is rest = omega arith
    at false is rest =
        let some : 0 < to.at = grind (arith, nat_tests) in
        omega (arith, rest some)
