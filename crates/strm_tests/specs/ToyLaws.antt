-- What holds of the toys: what each sends on is within its table, and a turn of a queue is one call.
use Rattle.std.specs.Prelude.{ℕ, ◌≡◌, ◌≤◌, ◌+◌, ◌%◌, ◌^◌, ◌==◌, Bool, false, List, [], ◌∷◌, sum_by, Option, None, Some, is_some}
use Rattle.std.proofs.Common.{true, cond, refl, arith}
use Rattle.strm_types.specs.declared.names.ModuleName.{ModuleName}
use Rattle.strm_types.specs.declared.names.Way.{Way}
use Rattle.strm_types.specs.declared.names.Way.TheVariants.{Up, Down}
use Rattle.strm_types.specs.declared.spots.Spot.{Spot}
use Rattle.strm_types.specs.Budgets.{Costed, Within, cost_of, emits_at}
use Rattle.strm_types.specs.Deliver.{Took, toward}
use Rattle.strm_types.specs.Shapes.{shape_of}
use Rattle.strm_types.specs.Message.{Message}
use Rattle.strm_types.specs.Standings.{QueuePair}
use Rattle.strm_frame.specs.declared.queue_pair.QueuePair as frame
use Rattle.strm_frame.specs.Standings.{lists_of}
use Rattle.strm_tests.specs.Toys.{Stock, count_costs, counts, is_flush, onward, serves_of, stays, stock_does, stock_serves, stocked, stocks, turns}

-- one that has queues has them wherever their lists are the same
pub some-same : (queues others : Option frame.QueuePair) → lists_of others ≡ lists_of queues → is_some queues ≡ true → is_some others ≡ true
some-same queues (Some pair) lists is = refl
some-same (Some pair) None lists is = absurd (cc lists)
some-same None None lists is = is

-- what it sends is within its table
pub stocks-within : (here : Spot) (m : Message ℕ) (x : Stock) → Within (stocks here m x).sent (emits_at here (stock_does here.way (shape_of m)))
unfolding cost_of
stocks-within here m x cost = by x.queues
  where
    up : (turned : Bool) → cost (record { to = toward (cond turned Down Up) here; shape = shape_of m }) + 0 ≤ sum_by cost (emits_at here (stock_does Up (shape_of m)))
    up true = omega arith
    up false = omega arith

    on : (way : Way) → cost (record { to = toward (onward m.kind way) here; shape = shape_of m }) + 0 ≤ sum_by cost (emits_at here (stock_does way (shape_of m)))
    on Up = up (is_flush m.kind)
    on Down = omega arith

    at : (waits : Bool) (y : Stock) (pair : QueuePair ℕ) → cost_of cost (cond waits (stocked m y.part pair) (turns here m y)).sent ≤ sum_by cost (emits_at here (stock_does here.way (shape_of m)))
    at true y pair = omega arith
    at false y pair = on here.way

    by : (queues : Option (QueuePair ℕ)) → cost_of cost (stocks here m (record x { queues = queues })).sent ≤ sum_by cost (emits_at here (stock_does here.way (shape_of m)))
    by None = on here.way
    by (Some pair) = at (stays m.kind here.way) (record x { queues = Some pair }) pair

-- so is what a counter sends
pub counts-costed : Costed {C = ℕ} (λ (n : ℕ). count_costs) counts
unfolding cost_of
counts-costed = record { within = λ to m n. sends to m n; stays = λ to m n. refl }
  where
    sends : (to : Spot) (m : Message ℕ) (n : ℕ) → Within (counts to m n).sent (count_costs (record { to = to; shape = shape_of m })).emits
    sends to m n cost = at (to.at == 0)
      where
        next : ℕ
        next = (n + 1) % 2 ^ 64

        at : (top : Bool) → cost_of cost (cond {A = Took ℕ ℕ} top (record { state = next; sent = []; gone = [] }) (record { state = next; sent = record { to = toward Up to; message = m } ∷ []; gone = [] })).sent
            ≤ sum_by cost (cond top [] (record { to = toward Up to; shape = shape_of m } ∷ []))
        at true = omega arith
        at false = omega arith

-- a turn of its queue is one call
messages-call : (here : Spot) (name : ModuleName) (pair : QueuePair ℕ) (messages : List (Message ℕ)) → (serves_of here name pair messages).again ≡ false
messages-call here name pair [] = refl
messages-call here name pair (m ∷ rest) = refl

pub one-call : (here : Spot) (again : Bool) (stop : Option ℕ) (x : Stock) → (stock_serves here again stop x).again ≡ false
one-call here again stop x = by x.queues
  where
    by : (queues : Option (QueuePair ℕ)) → (stock_serves here again stop (record x { queues = queues })).again ≡ false
    by None = refl
    by (Some pair) = messages-call here x.part pair pair.write.messages
