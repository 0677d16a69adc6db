-- What becomes of a queue off which the last message is taken.
use Rattle.std.specs.Prelude.{ℕ, ◌≡◌, ◌≢◌, [], ◌∷◌, ◌++◌}
use Rattle.strm_blocks.specs.Blocks.{StoreValue, IsFreshName, in_hand, list_at}
use Rattle.strm_msg.specs.Messages.{message_of, IsChain}
use Rattle.strm_queue.specs.declared.queue.Queue.{Queue}
use Rattle.strm_queue.specs.Stored.{queue_in, messages_on, FreesBlocks, FreesNone, IsReady}

-- The last message of a queue was taken off it into the hand, beside what was there. The queue's flags stay, no other queue changed, and
-- no block was taken or freed.
pub record TakenLast (old new : StoreValue) (q q' : Queue) (name : ℕ) : Type 0 where
  pub fresh : IsFreshName old name
  pub last : messages_on old q.list ≡ messages_on new q'.list ++ message_of (in_hand new name) ∷ []
  pub queue : queue_in new q' ≡ record (queue_in old q) { messages = messages_on new q'.list }
  pub ready : IsReady new q'
  pub chain : IsChain (in_hand new name)
  pub list : q'.list ≡ q.list
  pub others : (k : ℕ) → k ≢ q.list → list_at new k ≡ list_at old k
  pub hand : new.hand ≡ record { name = name; chain = in_hand new name } ∷ old.hand
  pub mblks : new.mblks ≡ old.mblks
  pub dblks : new.dblks ≡ old.dblks
  pub frees : FreesBlocks old new
  pub blocks : FreesNone old new
