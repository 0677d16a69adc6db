-- A message that was put on a queue of a pair, and one that was taken off it (putq(9F), getq(9F)).
use Rattle.std.specs.Prelude.{ℕ, ◌≡◌, Bool, [], ◌∷◌, Some}
use Rattle.strm_frame.specs.Prelude.{Way, StoreValue, FreesBlocks, FreesNone, IsChain, in_hand, pair_changed, way_queue}
use Rattle.strm_types.specs.Queue.{left_with, put_enables, put_on}
use Rattle.strm_frame.specs.declared.queue_pair.QueuePair.{QueuePair}
use Rattle.strm_frame.specs.Hands.{Handles, Hands, OnlyOwn, SamePool, once}
use Rattle.strm_frame.specs.Outboxes.{message_in}
use Rattle.strm_frame.specs.Standings.{IsPairReady, lists_of, pair_in, queues_own}

-- A message in hand was put on the queue of a way, which that enables or not. Only that queue changed, and no block was taken or freed.
pub record PutsOn (old new : StoreValue) (pair pair' : QueuePair) (way : Way) (message : ℕ) (enables : Bool) : Type 0 where
  pub state : pair_in new pair' ≡ pair_changed way (put_on (message_in old message)) (pair_in old pair)
  pub enables_it : enables ≡ put_enables (message_in old message) (way_queue way (pair_in old pair))
  pub ready : IsPairReady new pair'
  pub lists : lists_of (Some pair') ≡ lists_of (Some pair)
  pub own : OnlyOwn old new (queues_own (Some pair)) (queues_own (Some pair'))
  pub hands : Hands old new message (λ _. 0) (λ _. 0) (λ _. 0)
  pub frees : FreesBlocks old new
  pub blocks : FreesNone old new
  pub pool : SamePool old new

-- Nothing stood on the queue of a way from which a message was to be taken, and nothing changed.
pub record TakesNone (old new : StoreValue) (pair pair' : QueuePair) (way : Way) : Type 0 where
  pub none : (way_queue way (pair_in old pair)).messages ≡ []
  pub same : new ≡ old
  pub state : pair_in new pair' ≡ pair_in old pair
  pub ready : IsPairReady new pair'
  pub lists : lists_of (Some pair') ≡ lists_of (Some pair)
  pub own : OnlyOwn old new (queues_own (Some pair)) (queues_own (Some pair'))

-- The first message of the queue of a way was taken off it into the hand, beside what was there. Only that queue changed, and no block was taken.
pub record TakesFirst (old new : StoreValue) (pair pair' : QueuePair) (way : Way) (message : ℕ) : Type 0 where
  pub first : (way_queue way (pair_in old pair)).messages ≡ message_in new message ∷ (way_queue way (pair_in new pair')).messages
  pub state : pair_in new pair' ≡ pair_changed way (left_with (way_queue way (pair_in new pair')).messages) (pair_in old pair)
  pub chain : IsChain (in_hand new message)
  pub ready : IsPairReady new pair'
  pub lists : lists_of (Some pair') ≡ lists_of (Some pair)
  pub own : OnlyOwn old new (queues_own (Some pair)) (queues_own (Some pair'))
  pub hands : Handles old new (λ _. 0) (λ _. 0) (λ _. 0) (once message)
  pub frees : FreesBlocks old new
  pub pool : SamePool old new
