-- What a put changes of the plain queue, and of what holds of a queue beside its store.
use Rattle.std.proofs.Common.{ℕ, ◌≡◌, ◌<◌, ◌+◌, List, length, map, refl, ap, ◌∙◌, arith}
use Rattle.strm_types.specs.Message.{Message, data_message, band_of}
use Rattle.strm_types.specs.Queue as plain
use Rattle.strm_types.proofs.Data.{data-band}
use Rattle.strm_types.proofs.Ranked.{sum-put}
use Rattle.strm_blocks.specs.Blocks.{Block, StoreValue, IsStore, list_at, in_hand, held, placed, dropped, put, rank_of, free_m, free_d}
use Rattle.strm_msg.specs.Messages.{message_of}
use Rattle.strm_msg.proofs.Chains.{put-chains}
use Rattle.strm_queue.specs.declared.queue.Queue.{Queue}
use Rattle.strm_queue.specs.Flows.{plain_flows}
use Rattle.strm_queue.specs.Queues.{OnlyCounts}
use Rattle.strm_queue.specs.Kept as kept
use Rattle.strm_queue.specs.Kept.{AreCounted}
use Rattle.strm_queue.specs.Stored.{messages_on, queue_in, IsReady, Keeps}
use Rattle.strm_queue.proofs.Chains.{band-same}
use Rattle.strm_queue.proofs.Holding.{put-messages, put-holds}
use Rattle.strm_queue.proofs.Placed.{Landed, put-is, put-on, keeps-landed, same-free_m, same-free_d}
use Rattle.strm_queue.proofs.OneMade.{OneMade}

-- the plain queue is that of the messages, the flows and the flags
pub queue-by : (s new : StoreValue) (q q' : Queue) (messages : List (Message ℕ)) → q'.list ≡ q.list → messages_on new q.list ≡ messages → plain_flows q'.flows ≡ plain_flows q.flows → q'.want_read ≡ q.want_read → q'.no_enable ≡ q.no_enable
    → queue_in new q' ≡ record (queue_in s q) { messages = messages }
queue-by s new q q' messages list is flows want_read no_enable = rw (list, is, flows, want_read, no_enable) refl

-- a message that was put is put on the plain queue
pub put-queue : (s new : StoreValue) (q q' : Queue) (chain : List Block) → Landed s new q.list (put chain (list_at s q.list)) → OnlyCounts q q' → plain_flows q'.flows ≡ plain_flows q.flows
    → queue_in new q' ≡ plain.put_on (message_of chain) (queue_in s q)
put-queue s new q q' chain p others flows =
    queue-by s new q q' (plain.put (message_of chain) (messages_on s q.list)) others.list (ap (map message_of) p.here ∙ put-chains chain (list_at s q.list)) flows others.want_read others.no_enable

-- a message that was made of at most 256 bytes, and put on a list
module _ (s made new : StoreValue) (q : Queue) (i : ℕ) (bytes : List ℕ) (within : q.list < length s.lists) (m : OneMade s made i bytes)
    (is : new ≡ placed (dropped made i) q.list (put (in_hand made i) (list_at made q.list))) where
  again : new ≡ placed (dropped (held s i (in_hand made i)) i) q.list (put (in_hand (held s i (in_hand made i)) i) (list_at (held s i (in_hand made i)) q.list))
  again = is ∙ ap (λ v. placed (dropped v i) q.list (put (in_hand v i) (list_at v q.list))) m.is

  pub sent-on : Landed s new q.list (put (in_hand made i) (list_at s q.list))
  sent-on = put-on s q.list i (in_hand made i) within new again

  sent-is : new ≡ placed s q.list (put (in_hand made i) (list_at s q.list))
  sent-is = put-is s q.list i (in_hand made i) within new again

  pub sent-takes_m : free_m new + 1 ≡ free_m s
  sent-takes_m =
      ap (λ v. free_m v + 1) sent-is
      ∙ ap (λ n. n + 1) (same-free_m s q.list i (in_hand made i) (put (in_hand made i) (list_at s q.list)) within (λ f. sum-put rank_of f (in_hand made i) (list_at s q.list))) ∙ m.room_m

  pub sent-takes_d : free_d new + 1 ≡ free_d s
  sent-takes_d =
      ap (λ v. free_d v + 1) sent-is
      ∙ ap (λ n. n + 1) (same-free_d s q.list i (in_hand made i) (put (in_hand made i) (list_at s q.list)) within (λ f. sum-put rank_of f (in_hand made i) (list_at s q.list))) ∙ m.room_d

  pub sent-queue : (q' : Queue) → OnlyCounts q q' → plain_flows q'.flows ≡ plain_flows q.flows → queue_in new q' ≡ plain.put_on (data_message bytes) (queue_in s q)
  sent-queue q' others flows = put-queue s new q q' (in_hand made i) sent-on others flows ∙ ap (λ x. plain.put_on x (queue_in s q)) m.shows.is

  pub sent-keeps : (q' : Queue) → IsReady s q → q'.list ≡ q.list → AreCounted q'.flows (list_at new q'.list) → Keeps s new q q'
  sent-keeps q' ready same counted =
      keeps-landed s new q q' (put (in_hand made i) (list_at s q.list)) sent-on (put-messages (in_hand made i) (list_at s q.list) m.shows.one ready.messages) (λ test passes h. put-holds test (in_hand made i) (list_at s q.list) (ap test m.shows.kind ∙ passes) h) same counted

-- what the store has once the message is made
module _ (s made : StoreValue) (q : Queue) (i : ℕ) (bytes : List ℕ) (m : OneMade s made i bytes) where
  pub list-made : list_at made q.list ≡ list_at s q.list
  list-made = ap (λ v. list_at v q.list) m.is

  pub list-within : IsStore made → q.list < length s.lists
  list-within is = let same : length made.lists ≡ length s.lists = ap (λ (v : StoreValue). length v.lists) m.is in omega (arith, is.eight, q.on_list)

-- a message of data is of a band that a queue has
pub low-band : (s made : StoreValue) (i : ℕ) (bytes : List ℕ) → OneMade s made i bytes → kept.band_of (in_hand made i) < 256
low-band s made i bytes m = let none : kept.band_of (in_hand made i) ≡ 0 = band-same (in_hand made i) ∙ ap band_of m.shows.is ∙ data-band bytes in omega arith
