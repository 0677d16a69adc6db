-- A turn of a stream of two modules, step by step.
use Rattle.std.proofs.Common.{ℕ, zero, suc, ◌≡◌, ◌≢◌, ◌≤◌, ◌<◌, ◌+◌, true, false, cond, Bool, Option, None, Some, List, [], ◌∷◌, length, get_or, map, refl, sym, ap, subst, ◌∙◌, arith}
use Rattle.std.specs.Prelude.{◌==◌, ◌&&◌, min, nat_le, sum_by}
use Rattle.std.proofs.lemmas.Bool.{and_parts}
use Rattle.std.proofs.lemmas.Bool.Decides.{nat_tests}
use Rattle.std.proofs.lemmas.List.Sums.{sum_by-cons}
use Rattle.strm_types.specs.declared.names.Way.{Way}
use Rattle.strm_types.specs.declared.names.Way.TheVariants.{Up, Down}
use Rattle.strm_types.specs.declared.spots.Spot.{Spot}
use Rattle.strm_types.specs.Message.{Message}
use Rattle.strm_types.specs.declared.names.Side.{Side}
use Rattle.strm_types.specs.Budgets.{beyond, budget, emits_at}
use Rattle.strm_types.specs.Shapes.{At, Shape}
use Rattle.strm_types.specs.Deliver.{Acted}
use Rattle.strm_types.specs.Modules.{act_among}
use Rattle.strm_blocks.specs.Blocks.{StoreValue, empty_store, free_d, free_m, in_hand, times_in, token}
use Rattle.strm_msg.specs.Messages.{IsChain}
use Rattle.strm_queue.specs.Stored.{IsReady}
use Rattle.strm_frame.specs.declared.parcels.Sent.{Sent}
use Rattle.strm_frame.specs.Hands.{once, CanPut, Handles, Hands, HasRoom, MayDeliver}
use Rattle.strm_frame.specs.Outboxes.{times_sent, parcels_in, AreChains}
use Rattle.strm_frame.specs.Stacks.{all_of}
use Rattle.strm_tests.specs.Toys.{Stock, stock_does, stock_serves, serves_of}
use Rattle.strm_types.specs.declared.names.ModuleName.{ModuleName}
use Rattle.strm_types.specs.Standings.{QueuePair, stood}
use Rattle.strm_frame.specs.declared.queue_pair.QueuePair as pairs
use Rattle.strm_frame.specs.declared.standing.Standing.{Standing}
use Rattle.strm_frame.specs.Standings.{IsPairReady, owns, queues_own, standing}
use Rattle.strm_tests.specs.Rigs.{is_end, rig_costs, took_at, left_at, rig_puts, AtRest}
use Rattle.strm_frame.proofs.Handing.{once-self, no-hand}
use Rattle.strm_msg.proofs.Hands.{other-name}

-- nor is a block taken
pub none-taken : {P : Type 0} (ps : List P) (i : ℕ) → get_or (map {B = ℕ} (λ p. 0) ps) i 0 ≡ 0
none-taken [] i = refl
none-taken (p ∷ ps) zero = refl
none-taken (p ∷ ps) (suc i) = none-taken ps i

pub eight-taken : {P : Type 0} (ps : List P) (i : ℕ) → get_or (map {B = ℕ} (λ p. 8) ps) i 0 ≤ 8
eight-taken [] i = omega arith
eight-taken (p ∷ ps) zero = omega arith
eight-taken (p ∷ ps) (suc i) = eight-taken ps i

-- nothing is kept
pub kept-none : {X : Type 0} (xs : List X) (i : ℕ) → all_of (λ x j. 0) xs i ≡ 0
kept-none [] i = refl
kept-none (x ∷ xs) i = let c = sum_by-cons (λ y. 0) x xs in let ih = kept-none xs i in omega arith

-- from each spot a delivery ends, and takes no block
ends-past : (hops : ℕ) (a : At) → is_end a.to.at ≡ true → budget rig_costs (suc hops) a ≡ 0
unfolding budget
ends-past hops a is = ap (λ (b : Bool). min beyond (0 + sum_by (budget rig_costs hops) (cond b [] (emits_at a.to (stock_does a.to.way a.shape))))) is ∙ omega arith

ends-from : (side : Side) (at : ℕ) (way : Way) (shape : Shape) → budget rig_costs 16 (record { to = record { side = side; at = at; way = way }; shape = shape }) ≡ 0
unfolding budget
ends-from side zero way shape = refl
ends-from side (suc zero) Up shape = refl
ends-from side (suc zero) Down shape = refl
ends-from side (suc (suc zero)) Up shape = refl
ends-from side (suc (suc zero)) Down shape = refl
ends-from side (suc (suc (suc at))) way shape = ends-past 15 (record { to = record { side = side; at = suc (suc (suc at)); way = way }; shape = shape }) (let past : is_end (suc (suc (suc at))) ≡ true = grind (arith, nat_tests) in past)

pub rig-may : (s : StoreValue) (to : Spot) (shape : Shape) → MayDeliver s 0 (budget rig_costs 16 (record { to = to; shape = shape }))
rig-may s to shape =
    let none = ends-from to.side to.at to.way shape in
    record { room = record { mblks = omega (arith, none); dblks = omega (arith, none) }; spare = omega (arith, none); ends = omega (arith, none) }

-- there is room where it is seen
pub room-seen : (s : StoreValue) → (nat_le 8 (free_m s) && nat_le 8 (free_d s)) ≡ true → HasRoom s 8
room-seen s is =
    let both = and_parts (nat_le 8 (free_m s)) (nat_le 8 (free_d s)) is in
    let first = both.0 in
    let second = both.1 in
    record { mblks = grind (arith, nat_tests); dblks = grind (arith, nat_tests) }

-- one message at most is sent by a service procedure
few-of : (here : Spot) (name : ModuleName) (pair : QueuePair ℕ) (all : List (Message ℕ)) → length (serves_of here name pair all).acted.sent ≤ 1
few-of here name pair [] = omega arith
few-of here name pair (m ∷ rest) = omega arith

few-sent : (here : Spot) (again : Bool) (stop : Option ℕ) (p : Stock) → length (stock_serves here again stop p).acted.sent ≤ 1
few-sent here again stop p = by p.queues
  where
    by : (queues : Option (QueuePair ℕ)) → length (stock_serves here again stop (stood p.part queues)).acted.sent ≤ 1
    by None = omega arith
    by (Some pair) = few-of here p.part pair pair.write.messages

act-few : (acts : Stock → Acted ℕ Stock) → ((p : Stock) → length (acts p).sent ≤ 1) → (i : ℕ) (ps : List Stock) → length (act_among acts i ps).sent ≤ 1
act-few acts few i [] = omega arith
act-few acts few zero (p ∷ ps) = few p
act-few acts few (suc i) (p ∷ ps) = act-few acts few i ps

module _ (s t : StoreValue) (kept keeps : ℕ → ℕ) (all : List Sent) (empty : s.hand ≡ []) (kept_none : (i : ℕ) → kept i ≡ 0) (keeps_none : (i : ℕ) → keeps i ≡ 0)
    (hands : Handles s t (λ _. 0) kept keeps (λ i. times_sent i all)) where
  times-now : (i : ℕ) → times_in i t.hand ≡ times_sent i all
  times-now i = let c = hands.counts i in let e = ap (times_in i) empty in let k = kept_none i in let z = keeps_none i in omega arith

  -- nothing was sent
  pub none-rest : all ≡ [] → t.hand ≡ []
  unfolding times_sent
  none-rest none = no-hand t.hand (λ i. times-now i ∙ ap (times_sent i) none)

  module _ (x : Sent) (more : List Sent) (split : all ≡ x ∷ more) where
    -- one was, and may be put
    pub sent-can : CanPut t (token x.message) keeps
    unfolding times_sent
    sent-can = record { apart = λ i. let c = times-now i in let e = ap (times_sent i) split in let z = keeps_none i in omega arith }

    pub sent-chain : AreChains t all → IsChain (in_hand t (token x.message))
    unfolding AreChains
    sent-chain chains = (subst (AreChains t) split chains).0

    only-one : (more : List Sent) → length (parcels_in t (x ∷ more)) ≤ 1 → more ≡ []
    unfolding parcels_in
    only-one [] few = refl
    only-one (y ∷ ys) few = absurd (omega arith)

    -- and nothing is left when it is delivered
    pub sent-rest : (here : Spot) (again : Bool) (stop : Option ℕ) (i : ℕ) (ps : List Stock) (u : StoreValue) (keeps' : ℕ → ℕ) → parcels_in t all ≡ (act_among (λ p. (stock_serves here again stop p).acted) i ps).sent
        → ((j : ℕ) → keeps' j ≡ 0) → Hands t u (token x.message) keeps keeps' (λ _. 0) → u.hand ≡ []
    unfolding times_sent
    sent-rest here again stop i ps u keeps' sent keeps_none' carried =
        let few = act-few (λ p. (stock_serves here again stop p).acted) (few-sent here again stop) i ps in
        let one = only-one more (subst (λ xs. length (parcels_in t xs) ≤ 1) split (subst (λ ps. length ps ≤ 1) (sym sent) few)) in
        no-hand u.hand (λ j.
        let c = carried.counts j in let a = times-now j in let e = ap (times_sent j) split in let n = ap (times_sent j) one in
        let k = keeps_none j in let z = keeps_none' j in omega arith)

-- a message that has left
pub rig-ends : (to : Spot) (m : Message ℕ) (ps : List Stock) (answer : Bool) → answer ≡ is_end to.at → answer ≡ true → rig_puts to m ps ≡ left_at ps
rig-ends to m ps answer asked is = ap (λ v. cond v (left_at ps) (took_at to m ps)) (sym asked ∙ is)

once-most : (i j : ℕ) → once i j ≤ 1
unfolding once
once-most i j = at (i == j)
  where
    at : (same : Bool) → cond {A = ℕ} same 1 0 ≤ 1
    at true = omega arith
    at false = omega arith

miss : (i j : ℕ) → i ≢ j → once i j ≡ 0
unfolding once
miss i j ne = ap (λ v. cond {A = ℕ} v 1 0) (other-name i j ne)

four-lists : (k : ℕ) → (once 0 k + once 1 k) + (once 2 k + once 3 k) ≤ 1
four-lists zero = let b = miss 1 0 (λ e. absurd (omega arith)) in let c = miss 2 0 (λ e. absurd (omega arith)) in let d = miss 3 0 (λ e. absurd (omega arith)) in omega (arith, once-self 0, b, c, d)
four-lists (suc zero) = let a = miss 0 1 (λ e. absurd (omega arith)) in let c = miss 2 1 (λ e. absurd (omega arith)) in let d = miss 3 1 (λ e. absurd (omega arith)) in omega (arith, once-self 1, a, c, d)
four-lists (suc (suc zero)) = let a = miss 0 2 (λ e. absurd (omega arith)) in let b = miss 1 2 (λ e. absurd (omega arith)) in let d = miss 3 2 (λ e. absurd (omega arith)) in omega (arith, once-self 2, a, b, d)
four-lists (suc (suc (suc k))) =
    let a = miss 0 (suc (suc (suc k))) (λ e. absurd (omega arith)) in
    let b = miss 1 (suc (suc (suc k))) (λ e. absurd (omega arith)) in
    let c = miss 2 (suc (suc (suc k))) (λ e. absurd (omega arith)) in
    omega (arith, a, b, c, once-most 3 (suc (suc (suc k))))

-- two queues on the first two lists
pub two-ready : (s : StoreValue) (pair : pairs.QueuePair) → IsReady s pair.read → IsReady s pair.write → pair.read.list ≡ 0 → pair.write.list ≡ 1 → IsPairReady s pair
two-ready s pair read write first second = record { read = read; write = write; apart = omega (arith, first, second) }

pub two-own : (pair : pairs.QueuePair) → pair.read.list ≡ 0 → pair.write.list ≡ 1 → (k : ℕ) → queues_own (Some pair) k ≡ once 0 k + once 1 k
two-own pair first second k = ap (λ l. once l k + once pair.write.list k) first ∙ ap (λ l. once 0 k + once l k) second

-- the two lists of the lower one come before those of the upper one
pair-low : (k : ℕ) → 0 < once 0 k + once 1 k → k ≤ 1
pair-low zero some = omega arith
pair-low (suc zero) some = omega arith
pair-low (suc (suc k)) some = absurd (omega (arith, some, miss 0 (suc (suc k)) (λ e. absurd (omega (arith, e))), miss 1 (suc (suc k)) (λ e. absurd (omega (arith, e)))))

pair-high : (k : ℕ) → 0 < once 2 k + once 3 k → 2 ≤ k
pair-high zero some = absurd (omega (arith, some, miss 2 0 (λ e. absurd (omega (arith, e))), miss 3 0 (λ e. absurd (omega (arith, e)))))
pair-high (suc zero) some = absurd (omega (arith, some, miss 2 1 (λ e. absurd (omega (arith, e))), miss 3 1 (λ e. absurd (omega (arith, e)))))
pair-high (suc (suc k)) some = omega arith

-- two modules whose queues stand on the first four lists of a new store
pub two-new : {M : Type 0} (mblks dblks : ℕ) (m n : M) (a b : pairs.QueuePair) (all : List (Standing M)) → all ≡ standing m (Some a) ∷ standing n (Some b) ∷ [] → IsPairReady (empty_store mblks dblks) a
    → IsPairReady (empty_store mblks dblks) b → ((k : ℕ) → queues_own (Some a) k ≡ once 2 k + once 3 k) → ((k : ℕ) → queues_own (Some b) k ≡ once 0 k + once 1 k) → AtRest (empty_store mblks dblks) all
two-new mblks dblks m n a b all is above below first second =
    let x = standing m (Some a) in
    let y = standing n (Some b) in
    rw is (record {
      are = record {
        held = record {
          each = (record { queues = above; itself = refl }, (record { queues = below; itself = refl }, tt));
          apart = λ k. omega (arith, sum_by-cons (λ z. owns z k) x (y ∷ []), sum_by-cons (λ z. owns z k) y [], four-lists k, first k, second k);
          order = (
            λ j k others own. omega (arith, pair-low j (omega (arith, others, sum_by-cons (λ z. owns z j) y [], second j)), pair-high k (omega (arith, own, first k))),
            ((λ j k others own. absurd (omega (arith, others))), tt),
          );
        };
        two = refl;
      };
      hand = refl;
    })
