-- What a put at a driver did to a store, a queue beside it and what has gone.
use Rattle.std.specs.Prelude.{ℕ, ◌≡◌, ◌≢◌, ◌+◌, List, None}
use Rattle.strm_pty.specs.Prelude.{MsgKind, Flush, Ioctl, Way, Up, Down, Fates, Note, Acted, Parcel, tallied, StoreValue, IsFreshName, in_hand, held}
use Rattle.strm_pty.specs.Prelude.{free_m, free_d, message_of, IsChain, Queue, queue_in, IsReady, Acts, Sent, once, Shifts, sent_of, times_sent}
use Rattle.strm_pty.specs.Prelude.{parcels_in, AreChains}
use Rattle.strm_types.specs.Queue as plain
use Rattle.strm_blocks.specs.Blocks.{list_at}

-- How many blocks of each kind a message takes at most that is put at a driver: one for each M_FLUSH or M_IOCNAK that it
-- gives rise to.
abbrev pub driver_cost : Way → MsgKind → ℕ
driver_cost Down Flush = 2
driver_cost Down Ioctl = 1
driver_cost Up Flush = 1
driver_cost _ _ = 0

-- The queue is ready and on its list, and no other list of the store changed.
pub record OnlyQueue (old new : StoreValue) (q q' : Queue) : Type 0 where
  pub ready : IsReady new q'
  pub list : q'.list ≡ q.list
  pub others : (k : ℕ) → k ≢ q.list → list_at new k ≡ list_at old k

-- A put did what a definition says: `message` has gone, and what is sent on has come in hand. No more blocks were taken than
-- `takes`.
pub record Does (old new : StoreValue) (q q' : Queue) (message takes : ℕ) (acts : Acts) (t t' : Fates) (is : Acted ℕ (plain.Queue ℕ)) : Type 0 where
  pub state : queue_in new q' ≡ is.state
  pub notes : acts.notes.items ≡ is.notes
  pub sent : parcels_in new (sent_of acts.sent) ≡ is.sent
  pub told : t' ≡ tallied is.gone t
  pub chains : AreChains new (sent_of acts.sent)
  pub only : OnlyQueue old new q q'
  pub hands : Shifts old new (once message) (λ i. times_sent i (sent_of acts.sent)) takes

-- Only the queue changed, as a definition says, and what has gone was told.
pub record Alters (old new : StoreValue) (q q' : Queue) (notes : List Note) (t t' : Fates) (is : Acted ℕ (plain.Queue ℕ)) : Type 0 where
  pub state : queue_in new q' ≡ is.state
  pub noted : notes ≡ is.notes
  pub told : t' ≡ tallied is.gone t
  pub only : OnlyQueue old new q q'
  pub hands : Shifts old new (λ _. 0) (λ _. 0) 0

-- Messages were made that go to these spots, and nothing else changed.
pub record Makes (old new : StoreValue) (takes : ℕ) (made : List Sent) (parcels : List (Parcel ℕ)) : Type 0 where
  pub lists : new.lists ≡ old.lists
  pub hands : Shifts old new (λ _. 0) (λ i. times_sent i made) takes
  pub sent : parcels_in new made ≡ parcels
  pub chains : AreChains new made

-- A message has gone, and others were made.
pub record Swaps (old new : StoreValue) (message takes : ℕ) (made : List Sent) (parcels : List (Parcel ℕ)) : Type 0 where
  pub lists : new.lists ≡ old.lists
  pub hands : Shifts old new (once message) (λ i. times_sent i made) takes
  pub sent : parcels_in new made ≡ parcels
  pub chains : AreChains new made

-- One message was made, of a kind without parts, in one block of each kind.
pub record MadeOne (old new : StoreValue) (name : ℕ) (kind : MsgKind) (bytes : List ℕ) : Type 0 where
  pub fresh : IsFreshName old name
  pub after : new ≡ held old name (in_hand new name)
  pub room_m : free_m new + 1 ≡ free_m old
  pub room_d : free_d new + 1 ≡ free_d old
  pub chain : IsChain (in_hand new name)
  pub shows : message_of (in_hand new name) ≡ record { kind = kind; band = 0; control = None; body = None; plain = bytes }
