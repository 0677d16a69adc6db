-- Two modules with queues on a stream, as stations at which messages are put.
use Rattle.std.specs.Prelude.{ℕ, zero, suc, ◌≡◌, ◌≤◌, ◌==◌, ◌||◌, nat_lt, ◌-◌, Bool, if◌then◌else◌, List, [], ◌∷◌, length, map, sum_by, Option, is_some}
use Rattle.strm_types.specs.declared.names.ModuleName.{ModuleName}
use Rattle.strm_types.specs.declared.spots.Spot.{Spot}
use Rattle.strm_types.specs.Message.{Message}
use Rattle.strm_types.specs.Budgets.{Costed, Costs, Within, cost_of, emits_at}
use Rattle.strm_types.specs.Deliver.{Took}
use Rattle.strm_types.specs.Shapes.{At, shape_of}
use Rattle.strm_types.specs.Modules.{put_among}
use Rattle.std.proofs.Common.{true, false, cond, refl, ap, arith}
use Rattle.strm_blocks.specs.Blocks.{StoreValue, list_at}
use Rattle.strm_frame.specs.declared.queue_pair.QueuePair.{QueuePair}
use Rattle.strm_frame.specs.declared.standing.Standing as frame
use Rattle.strm_frame.specs.Hands.{SameFor, SameOwn}
use Rattle.strm_frame.specs.StandingLaws.{standing-frame}
use Rattle.strm_frame.specs.Standings.{Fits, keeps_of, owns, standing_in}
use Rattle.strm_frame.specs.Stacks.{all_of, AreHeld}
use Rattle.strm_frame.specs.StackLaws.{stack-stays}
use Rattle.strm_tests.specs.Toys.{Stock, stock_does, stocks}
use Rattle.strm_tests.specs.ToyLaws.{some-same, stocks-within}

-- no module stands at such a place
abbrev pub is_end : ℕ → Bool
is_end at = (at == 0) || nat_lt 2 at

-- what a message does at a module
abbrev pub took_at : Spot → Message ℕ → List Stock → Took ℕ (List Stock)
took_at to m ps =
    let t = put_among stocks (to.at - 1) to m ps in
    record { state = t.state; sent = t.sent; gone = t.gone }

-- past both it has left
abbrev pub left_at : List Stock → Took ℕ (List Stock)
left_at ps = record { state = ps; sent = []; gone = [] }

abbrev pub rig_puts : Spot → Message ℕ → List Stock → Took ℕ (List Stock)
rig_puts to m ps = if is_end to.at then left_at ps else took_at to m ps

-- what it sends on at most
abbrev pub rig_costs : At → Costs
rig_costs a = record { own = 0; emits = if is_end a.to.at then [] else emits_at a.to (stock_does a.to.way a.shape) }

among-within : (i : ℕ) (to : Spot) (m : Message ℕ) (ps : List Stock) (cost : At → ℕ) → cost_of cost (put_among stocks i to m ps).sent ≤ sum_by cost (emits_at to (stock_does to.way (shape_of m)))
unfolding cost_of
among-within i to m [] cost = omega arith
among-within zero to m (p ∷ ps) cost = stocks-within to m p cost
among-within (suc i) to m (p ∷ ps) cost = among-within i to m ps cost

pub rig-costed : Costed (λ (ps : List Stock). rig_costs) rig_puts
unfolding cost_of
rig-costed = record { within = λ to m ps. sends to m ps; stays = λ to m ps. refl }
  where
    sends : (to : Spot) (m : Message ℕ) (ps : List Stock) → Within (rig_puts to m ps).sent (rig_costs (record { to = to; shape = shape_of m })).emits
    sends to m ps cost = at (is_end to.at)
      where
        at : (end : Bool) → cost_of cost (cond end (left_at ps) (took_at to m ps)).sent ≤ sum_by cost (cond end [] (emits_at to (stock_does to.way (shape_of m))))
        at true = omega arith
        at false = among-within (to.at - 1) to m ps cost

-- each has queues, and nothing in hand
abbrev pub HasQueues : {M : Type 0} → StoreValue → M → Option QueuePair → Type 0
HasQueues s x queues = is_some queues ≡ true

-- Two modules fit the store, each with its own queues.
pub record AreTwo {M : Type 0} (s : StoreValue) (xs : List (frame.Standing M)) : Type 0 where
  pub held : AreHeld (Fits HasQueues) owns s xs
  pub two : length xs ≡ 2

-- The same while nothing is in hand.
pub record AtRest {M : Type 0} (s : StoreValue) (xs : List (frame.Standing M)) : Type 0 where
  pub are : AreTwo s xs
  pub hand : s.hand ≡ []

-- they stand for the same where the lists do
pub rig-frame : {M : Type 0} (name : M → ModuleName) (s t : StoreValue) (xs : List (frame.Standing M)) → SameFor s t (all_of (λ x i. 0) xs) → AreTwo s xs
    → (map (standing_in (λ _. name) t) xs ≡ map (standing_in (λ _. name) s) xs) × AreTwo t xs
rig-frame {M} name s t xs same are =
    let own : SameOwn s t (all_of owns xs) (all_of (keeps_of (λ (x : M) (i : ℕ). 0)) xs) = record {
      lists = λ k some. ap (λ ls. list_at (record s { lists = ls }) k) same.lists;
      mblks = same.mblks;
      dblks = same.dblks;
      kept = same.kept;
    } in
    let frame = standing-frame (λ _. name) HasQueues (λ x i. 0) (λ s t x queues others lists same held. (refl, some-same queues others lists held)) in
    let r = stack-stays (standing_in (λ _. name)) (Fits HasQueues) owns (keeps_of (λ x i. 0)) frame s t xs own are.held in
    (r.0, record { held = r.1; two = are.two })
