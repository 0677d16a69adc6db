-- A module whose queues change but for their lists, and what its queue of a way is.
use Rattle.strm_frame.proofs.Prelude.{ℕ, ◌≡◌, ◌+◌, List, refl, ap, Option, None, Some, IfSome, slice_index_or}
use Rattle.strm_frame.specs.Prelude.{Way, Up, Down, way_queue, StoreValue, IsReady, queue_in}
use Rattle.strm_frame.specs.declared.queue_pair.QueuePair.{QueuePair}
use Rattle.strm_frame.specs.Hands.{SameOwn, once}
use Rattle.strm_frame.specs.Standings.{Fits, IsPairReady, lists_of, pair_in, queues_own, standing, the_queue}

-- the queue of a way stands for that of the pair's plain one, and is ready where the pair is
pub way-shown : (s : StoreValue) (way : Way) (pair : QueuePair) → queue_in s (the_queue way pair) ≡ way_queue way (pair_in s pair)
way-shown s Up pair = refl
way-shown s Down pair = refl

pub way-ready : (s : StoreValue) (way : Way) (pair : QueuePair) → IsPairReady s pair → IsReady s (the_queue way pair)
way-ready s Up pair ready = ready.read
way-ready s Down pair ready = ready.write

-- queues on the same lists own the same
own-of : List ℕ → ℕ → ℕ
own-of lists k = once (slice_index_or lists 0 0) k + once (slice_index_or lists 1 0) k

pub lists-own : (queues others : Option QueuePair) → lists_of others ≡ lists_of queues → (k : ℕ) → queues_own others k ≡ queues_own queues k
unfolding own-of once
lists-own None None lists k = refl
lists-own None (Some b) lists k = absurd (cc lists)
lists-own (Some a) None lists k = absurd (cc lists)
lists-own (Some a) (Some b) lists k = ap (λ l. own-of l k) lists

module _ {M P : Type 0} (in_itself : StoreValue → M → P) (IsHeld : StoreValue → M → Option QueuePair → Type 0) (keeps : M → ℕ → ℕ)
    (frame : (s t : StoreValue) (x : M) (queues others : Option QueuePair) → lists_of others ≡ lists_of queues → SameOwn s t (queues_own queues) (keeps x) → IsHeld s x queues
    → (in_itself t x ≡ in_itself s x) × IsHeld t x others) where
  -- it fits with them
  pub flags-fit : (s : StoreValue) (x : M) (queues others : Option QueuePair) → lists_of others ≡ lists_of queues → IfSome others (IsPairReady s)
      → Fits IsHeld s (standing x queues) → Fits IsHeld s (standing x others)
  flags-fit s x queues others lists ready held = record {
    queues = ready;
    itself = (frame s s x queues others lists (record { lists = λ k some. refl; mblks = refl; dblks = refl; kept = λ i some. refl }) held.itself).1;
  }
