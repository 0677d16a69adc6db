-- Calls of the service procedure of a module of a user's own: each treats the first message of its queue whole, and what it sends takes little.
use Rattle.strm_pair.proofs.Prelude.{ℕ, ◌≡◌, ◌≤◌, Bool, true, false, List, [], ◌∷◌, refl, sym, arith, Option, None, Some, sum_by, sum_by-cons}
use Rattle.strm_pair.proofs.Prelude.{false≢true}
use Rattle.strm_pair.specs.Prelude.{Way, Up, Down, Spot, plain, most, cost_of, Message, shape_of, first_size, bytes_left, disciplined, stood, Behaviour}
use Rattle.strm_pair.specs.Prelude.{OfOwn}
use Rattle.strm_types.specs.Budgets.{emits_at, next_at}
use Rattle.strm_types.specs.Ldterms.{new_ldterm}
use Rattle.strm_types.specs.OwnStands.{OwnActs, own_served, own_serves}
use Rattle.strm_types.specs.Owns.{Own}
use Rattle.strm_types.specs.Shapes.{Shape, Asking, Acking, Passing}
use Rattle.strm_types.specs.Standings.{QueuePair, way_queue}
use Rattle.strm_types.specs.Tables.{own_does}
use Rattle.strm_types.proofs.CostsOf.{most-few, none-few}
use Rattle.strm_laws.specs.Behaviours.{own_by}
use Rattle.strm_laws.proofs.OwnQueues.{first_emits, served-owed}
use Rattle.strm_own.specs.Stands.{turn_room}
use Rattle.strm_pair.specs.AnyModules.{MayServe, kind_cost}

-- what its table has of one message
own-few : (here : Spot) (way : Way) (shape : Shape) → sum_by most (emits_at here (own_does way shape)) ≤ 24
own-few here Down Asking =
    let a = next_at here (Up, Acking) in
    let b = next_at here (Up, Passing) in
    let c = next_at here (Down, Asking) in
    omega (arith, sum_by-cons most a (b ∷ c ∷ []), sum_by-cons most b (c ∷ []), sum_by-cons most c [], most-few a, most-few b, most-few c)
own-few here way shape = let a = next_at here (way, shape) in omega (arith, sum_by-cons most a [], most-few a)

first-few : (K : Behaviour) (here : Spot) (o : Own) (ms : List (Message ℕ)) → sum_by most (first_emits K plain here o ms) ≤ 24
first-few K here o [] = omega arith
first-few K here o (m ∷ rest) = own-few here here.way (shape_of m)

pub own-call-few : (K : Behaviour) (here : Spot) (o : Own) (queues : Option (QueuePair ℕ))
    → cost_of most (own_serves (own_by K plain) here (stood o queues)).acted.sent ≤ 31
own-call-few K here o None = none-few ℕ most 31
own-call-few K here o (Some pair) =
    let ms = (way_queue here.way pair).messages in
    let owed = served-owed K plain here o pair ms refl in
    omega (arith, owed.within most, first-few K here o ms)

served-whole : (own : OwnActs ℕ) (here : Spot) (o : Own) (pair : QueuePair ℕ) (ms : List (Message ℕ))
    → (own_served own here (stood o (Some pair)) pair ms).bytes ≡ first_size ms
served-whole own here o pair [] = refl
served-whole own here o pair (m ∷ rest) = refl

served-over : (own : OwnActs ℕ) (here : Spot) (o : Own) (pair : QueuePair ℕ) (ms : List (Message ℕ))
    → (own_served own here (stood o (Some pair)) pair ms).again ≡ false
served-over own here o pair [] = refl
served-over own here o pair (m ∷ rest) = refl

-- it asks for no other call
pub own-over : (own : OwnActs ℕ) (here : Spot) (way : Way) (o : Own) (queues : Option (QueuePair ℕ))
    → (own_serves own (record here { way = way }) (stood o queues)).again ≡ false
own-over own here way o None = refl
own-over own here way o (Some pair) = served-over own (record here { way = way }) o pair (way_queue way pair).messages

-- no turn of it goes on with a message in work
pub own-whole : (own : OwnActs ℕ) (here : Spot) (way : Way) (again : Bool) (o : Own) (queues : Option (QueuePair ℕ))
    → bytes_left way again (disciplined new_ldterm queues) ≤ (own_serves own (record here { way = way }) (stood o queues)).bytes
own-whole own here Up true o None = omega arith
own-whole own here Up true o (Some pair) = omega arith
own-whole own here Up false o None = omega arith
own-whole own here Up false o (Some pair) = omega (arith, served-whole own (record here { way = Up }) o pair pair.read.messages)
own-whole own here Down true o None = omega arith
own-whole own here Down true o (Some pair) = omega (arith, served-whole own (record here { way = Down }) o pair pair.write.messages)
own-whole own here Down false o None = omega arith
own-whole own here Down false o (Some pair) = omega (arith, served-whole own (record here { way = Down }) o pair pair.write.messages)

-- what it may count on is enough for what it sends
pub own-room : (here : Spot) (way : Way) (again : Bool) (o : Own) → MayServe way again (OfOwn o)
    → turn_room ≤ kind_cost (record here { way = way }) again (OfOwn o)
own-room here Up true o may = absurd (false≢true (sym (may refl)))
own-room here Up false o may = omega arith
own-room here Down again o may = omega arith
