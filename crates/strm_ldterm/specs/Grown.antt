-- What becomes of a message of data in hand to which bytes are added, and what is made of bytes.
use Rattle.std.specs.Prelude.{ℕ, ◌≡◌, ◌≢◌, ◌≤◌, ◌+◌, List, ◌++◌}
use Rattle.strm_ldterm.specs.Prelude.{Spot, plain, cells_of, data_message, grown, StoreValue, IsFreshName, in_hand, block_at, changed, held, free_m}
use Rattle.strm_ldterm.specs.Prelude.{free_d, list_at, Queue, queue_in, messages_on, IsReady, Shifts, message_in}
use Rattle.strm_types.specs.Queue.{put_on}
use Rattle.strm_ldterm.specs.Stands.{EndsPlain, IsData, IsOrdinary}

-- A message of data in hand has these bytes more at its end, in its band, and nothing else changed. At most so many blocks of each kind
-- were taken.
pub record Grown (old new : StoreValue) (name : ℕ) (bytes : List ℕ) (takes : ℕ) : Type 0 where
  pub after : new ≡ changed old name (in_hand new name)
  pub are : IsData new name
  pub band : (block_at 0 (in_hand new name)).band ≡ (block_at 0 (in_hand old name)).band
  pub cells : cells_of (message_in new name) ≡ cells_of (message_in old name) ++ bytes
  pub mblks : free_m old ≤ free_m new + takes
  pub dblks : free_d old ≤ free_d new + takes

-- An ordinary message of data of these bytes has come in hand, and nothing else changed. At most so many blocks of each kind were taken.
pub record Begins (old new : StoreValue) (name : ℕ) (bytes : List ℕ) (takes : ℕ) : Type 0 where
  pub fresh : IsFreshName old name
  pub after : new ≡ held old name (in_hand new name)
  pub are : IsOrdinary new name
  pub shows : message_in new name ≡ data_message bytes
  pub mblks : free_m old ≤ free_m new + takes
  pub dblks : free_d old ≤ free_d new + takes

-- One queue of a store may have changed, which is ready, and no other one, nor what is in hand. At most so many blocks of each kind were taken.
pub record Rewrites (old new : StoreValue) (q q' : Queue) (takes : ℕ) : Type 0 where
  pub ready : IsReady new q'
  pub list : q'.list ≡ q.list
  pub others : (k : ℕ) → k ≢ q.list → list_at new k ≡ list_at old k
  pub shifts : Shifts old new (λ _. 0) (λ _. 0) takes

-- The message that stands last on a queue has these bytes more at its end, and is one of data still.
pub record GrowsLast (old new : StoreValue) (q q' : Queue) (bytes : List ℕ) (takes : ℕ) : Type 0 where
  pub queue : (here : Spot) → queue_in new q' ≡ record (queue_in old q) { messages = grown plain here bytes (messages_on old q.list) }
  pub ends : EndsPlain (messages_on new q'.list)
  pub rewrites : Rewrites old new q q' takes

-- A message of data of these bytes was put on a queue, where it stands last.
pub record BeginsLast (old new : StoreValue) (q q' : Queue) (bytes : List ℕ) (takes : ℕ) : Type 0 where
  pub queue : queue_in new q' ≡ put_on (data_message bytes) (queue_in old q)
  pub ends : EndsPlain (messages_on new q'.list)
  pub rewrites : Rewrites old new q q' takes
