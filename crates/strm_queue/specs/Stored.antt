-- What a store and the queues beside it stand for, and what holds of a queue and its list.
use Rattle.std.specs.Prelude.{ℕ, Bool, true, false, ◌≡◌, ◌≢◌, ◌≤◌, List, [], ◌∷◌, map}
use Rattle.std.specs.List.{AllByRecursion}
use Rattle.strm_types.specs.declared.kinds.MsgKind.{MsgKind}
use Rattle.strm_types.specs.declared.kinds.MsgKind.TheVariants as kinds
use Rattle.strm_types.specs.Flush.{is_data_kind}
use Rattle.strm_types.specs.Message.{Message}
use Rattle.strm_types.specs.Queue as plain
use Rattle.strm_blocks.specs.Blocks.{Block, StoreValue, IsFreshName, block_at, in_hand, list_at, free_m, free_d}
use Rattle.strm_msg.specs.Messages.{message_of, IsChain, AreMessages}
use Rattle.strm_queue.specs.declared.queue.Queue.{Queue}
use Rattle.strm_queue.specs.Flows.{plain_flows}
use Rattle.strm_queue.specs.Kept.{AreCounted}

-- the messages of a list of the store, each chain read along its links
abbrev pub messages_on : StoreValue → ℕ → List (Message ℕ)
messages_on s k = map message_of (list_at s k)

-- the plain queue
abbrev pub queue_in : StoreValue → Queue → plain.Queue ℕ
queue_in s q = record {
  messages = messages_on s q.list;
  flows = plain_flows q.flows;
  want_read = q.want_read;
  no_enable = q.no_enable;
}

-- A queue beside a store: the chains on its list are messages, in order, and its kept numbers are those of them. What
-- is in hand and what other lists hold is left open.
pub record IsReady (s : StoreValue) (q : Queue) : Type 0 where
  pub messages : AreMessages (list_at s q.list)
  pub counted : AreCounted q.flows (list_at s q.list)

-- The kind of each message passes a test.
pub record Holds (test : MsgKind → Bool) (q : List (List Block)) : Type 0 where
  pub each : AllByRecursion (λ chain. test (block_at 0 chain).kind ≡ true) q

-- Each message is M_DATA, M_PROTO or M_PCPROTO: all that a stream head's queue holds.
abbrev pub HoldsReadable : List (List Block) → Type 0
HoldsReadable = Holds is_data_kind

-- a stream head's queue
pub record IsHeadQueue (s : StoreValue) (q : Queue) : Type 0 where
  pub ready : IsReady s q
  pub readable : HoldsReadable (list_at s q.list)

-- One queue of a store may have changed, and no other one, nor what is in hand. The queue is ready. A test that M_DATA
-- passes is passed by all its messages still, where it was by all.
pub record Keeps (old new : StoreValue) (q q' : Queue) : Type 0 where
  pub ready : IsReady new q'
  pub holds : (test : MsgKind → Bool) → test kinds.Data ≡ true → Holds test (list_at old q.list) → Holds test (list_at new q'.list)
  pub list : q'.list ≡ q.list
  pub others : (k : ℕ) → k ≢ q.list → list_at new k ≡ list_at old k
  pub hand : new.hand ≡ old.hand
  pub mblks : new.mblks ≡ old.mblks
  pub dblks : new.dblks ≡ old.dblks

-- One queue of a store may have changed, and no other one, nor what is in hand. The queue is ready.
pub record Changes (old new : StoreValue) (q q' : Queue) : Type 0 where
  pub ready : IsReady new q'
  pub list : q'.list ≡ q.list
  pub others : (k : ℕ) → k ≢ q.list → list_at new k ≡ list_at old k
  pub hand : new.hand ≡ old.hand
  pub mblks : new.mblks ≡ old.mblks
  pub dblks : new.dblks ≡ old.dblks

-- no fewer blocks are free
pub record FreesBlocks (old new : StoreValue) : Type 0 where
  pub mblks : free_m old ≤ free_m new
  pub dblks : free_d old ≤ free_d new

-- no block has become free
abbrev pub FreesNone : StoreValue → StoreValue → Type 0
FreesNone old new = (free_m new ≤ free_m old) × (free_d new ≤ free_d old)

-- the marks and the flags stay, but want-read may be cleared
pub record SameFlags (old new : Queue) : Type 0 where
  pub flows : plain_flows new.flows ≡ plain_flows old.flows
  pub want_read : old.want_read ≡ false → new.want_read ≡ false
  pub no_enable : new.no_enable ≡ old.no_enable

-- Nothing stood on a queue from which a message was to be taken, and nothing changed.
pub record NoneTaken (old new : StoreValue) (q q' : Queue) : Type 0 where
  pub none : messages_on old q.list ≡ []
  pub same : new ≡ old
  pub queue : queue_in new q' ≡ queue_in old q
  pub ready : IsReady new q'
  pub list : q'.list ≡ q.list

-- The first message of a queue was taken off it into the hand, beside what was there, and no other queue changed. No fewer blocks
-- are free.
pub record Dequeued (old new : StoreValue) (q q' : Queue) (name : ℕ) : Type 0 where
  pub fresh : IsFreshName old name
  pub first : messages_on old q.list ≡ message_of (in_hand new name) ∷ messages_on new q'.list
  pub queue : queue_in new q' ≡ plain.left_with (messages_on new q'.list) (queue_in old q)
  pub ready : IsReady new q'
  pub holds : (test : MsgKind → Bool) → Holds test (list_at old q.list) → Holds test (list_at new q'.list)
  pub chain : IsChain (in_hand new name)
  pub list : q'.list ≡ q.list
  pub others : (k : ℕ) → k ≢ q.list → list_at new k ≡ list_at old k
  pub hand : new.hand ≡ record { name = name; chain = in_hand new name } ∷ old.hand
  pub mblks : new.mblks ≡ old.mblks
  pub dblks : new.dblks ≡ old.dblks
  pub frees : FreesBlocks old new
