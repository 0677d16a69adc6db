-- Laws of a module of a user's own where it stands: what it has stays, and what it sends is within its table.
use Rattle.std.specs.Prelude.{ℕ, ◌≡◌, false, List, [], ◌∷◌, Option, None, Some}
use Rattle.std.proofs.Common.{refl}
use Rattle.strm_own.specs.Prelude.{QueuePair, Message, Own, Spot}
use Rattle.strm_types.specs.Budgets.{Within, emits_at}
use Rattle.strm_types.specs.Cells.{plain}
use Rattle.strm_types.specs.OwnStands.{OwnActs, own_puts, own_served, own_serves}
use Rattle.strm_types.specs.Shapes.{shape_of}
use Rattle.strm_types.specs.Standings as stands
use Rattle.strm_types.specs.Tables.{own_does}
use Rattle.strm_laws.specs.Behaviours.{Behaviour, own_by}
use Rattle.strm_laws.proofs.OwnQueues.{own-owed}
use Rattle.strm_frame.specs.Standings.{lists_of}
use Rattle.strm_own.specs.Stands.{HasQueues}

-- where the lists are the same it has queues as it had
pub has-same : (x : Own) (queues others : Option QueuePair) → lists_of others ≡ lists_of queues → HasQueues x queues → HasQueues x others
has-same x None None lists has = has
has-same x None (Some pair) lists has = absurd (cc)
has-same x (Some pair) None lists has = absurd (cc)
has-same x (Some pair) (Some other) lists has = has

pub own-within : (K : Behaviour) (here : Spot) (m : Message ℕ) (x : stands.Standing Own ℕ)
    → Within (own_puts (own_by K plain) here m x).sent (emits_at here (own_does here.way (shape_of m)))
own-within K here m x = at x.queues
  where
    at : (queues : Option (stands.QueuePair ℕ))
        → Within (own_puts (own_by K plain) here m (stands.stood x.part queues)).sent (emits_at here (own_does here.way (shape_of m)))
    at None = (K.put plain here m x.part).within
    at (Some pair) = (own-owed K plain here x.part m pair).within

-- a call treats a message whole, and asks for no more
pub own-once : (own : OwnActs ℕ) (here : Spot) (x : stands.Standing Own ℕ) → (own_serves own here x).again ≡ false
own-once own here x = at x.queues
  where
    first : (y : stands.Standing Own ℕ) (pair : stands.QueuePair ℕ) (ms : List (Message ℕ)) → (own_served own here y pair ms).again ≡ false
    first y pair [] = refl
    first y pair (m ∷ rest) = refl

    at : (queues : Option (stands.QueuePair ℕ)) → (own_serves own here (stands.stood x.part queues)).again ≡ false
    at None = refl
    at (Some pair) = first (stands.stood x.part (Some pair)) pair (stands.way_queue here.way pair).messages
