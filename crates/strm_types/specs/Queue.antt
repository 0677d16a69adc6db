-- Queues: their order, their counts and flow control (putq(9F), getq(9F), STREAMS Programming Guide, "Flow Control").
use Rattle.std.specs.Prelude.{ℕ, zero, suc, Bool, true, false, not, ◌&&◌, ◌||◌, ◌==◌, nat_le, nat_lt, if◌then◌else◌, List, [], ◌∷◌, map, sum_by, replicate, slice_index_or, Option, None, Some}
use Rattle.strm_types.specs.declared.limits.TheConstants.{BANDS}
use Rattle.strm_types.specs.Ranked as ranked
use Rattle.strm_types.specs.Message.{Message, rank_of, band_of, size_of, weight_of, is_high_priority, map_message}

-- the flow control of one band of a queue
pub record Flow : Type 0 where
  pub high : ℕ  -- the high-water mark: a count from it on is full
  pub low : ℕ  -- the low-water mark: a count down to it lets writers go on
  pub want_write : Bool  -- a service procedure found the band full

-- A queue: its messages, the first one first, the flow control of its bands from 0 up, and its flags.
pub record Queue (C : Type 0) : Type 0 where
  pub messages : List (Message C)
  pub flows : List Flow
  pub want_read : Bool
  pub no_enable : Bool

-- whether nothing stands in a list
abbrev pub is_none_left : {A : Type 0} → List A → Bool
is_none_left [] = true
is_none_left (_ ∷ _) = false

module _ {C : Type 0} where
  -- the messages of one rank, in their order
  abbrev pub lane : ℕ → List (Message C) → List (Message C)
  lane = ranked.lane rank_of

  -- no message has a higher rank than one before it
  abbrev pub IsOrdered : List (Message C) → Type 0
  IsOrdered = ranked.IsOrdered rank_of

  -- putq(9F): behind all messages of at least this rank
  abbrev pub put : Message C → List (Message C) → List (Message C)
  put = ranked.put rank_of

  -- putbq(9F): in front of all messages of at most this rank
  abbrev pub put_back : Message C → List (Message C) → List (Message C)
  put_back = ranked.put_back rank_of

  -- getq(9F): the first message, and the rest
  abbrev pub take_first : List (Message C) → Option (Message C × List (Message C))
  take_first [] = None
  take_first (first ∷ rest) = Some (first, rest)

  -- how many bytes the first message has
  abbrev pub first_size : List (Message C) → ℕ
  first_size [] = 0
  first_size (m ∷ _) = size_of m

  -- several messages put one after the other
  abbrev pub put_all : List (Message C) → List (Message C) → List (Message C)
  put_all [] q = q
  put_all (m ∷ more) q = put_all more (put m q)

  -- the lanes from a rank down to 0, joined
  abbrev pub lanes_down : ℕ → List (Message C) → List (Message C)
  lanes_down = ranked.lanes_down rank_of

  -- how many bytes count in a band
  abbrev pub count_of : ℕ → List (Message C) → ℕ
  count_of band q = sum_by (λ m. if band_of m == band then size_of m else 0) q

  -- how many bytes these messages have
  abbrev pub bytes_of : List (Message C) → ℕ
  bytes_of q = sum_by size_of q

  -- how many cells on the queue pass a test
  abbrev pub weight : (C → Bool) → List (Message C) → ℕ
  weight p q = sum_by (weight_of p) q

  -- the flow control of a band
  abbrev pub flow_of : ℕ → Queue C → Flow
  flow_of band q = slice_index_or q.flows band (record { high = 1; low = 0; want_write = false })

  -- a band is full exactly while its count is at or above its high mark
  abbrev pub is_full : ℕ → Queue C → Bool
  is_full band q = nat_le (flow_of band q).high (count_of band q.messages)

  -- the queue with a message put on it
  abbrev pub put_on : Message C → Queue C → Queue C
  put_on m q = record q { messages = put m q.messages }

  -- Whether a put enables a queue that has a service procedure: a message of high priority always, a banded one unless
  -- enabling is off, one of band 0 also where the queue wants to be read.
  abbrev pub put_enables : Message C → Queue C → Bool
  put_enables m q = is_high_priority m.kind || (not q.no_enable && (nat_lt 0 (band_of m) || q.want_read))

  -- the queue whose first message was taken, with what is left of it
  abbrev pub left_with : List (Message C) → Queue C → Queue C
  left_with messages q = record q { messages = messages; want_read = false }

  -- the flows of bands from one up, with want-write cleared where the count has come down to the low mark
  abbrev pub relieved_from : ℕ → List (Message C) → List Flow → List Flow
  relieved_from band messages [] = []
  relieved_from band messages (flow ∷ flows) =
      (if flow.want_write && nat_le (count_of band messages) flow.low then record flow { want_write = false } else flow)
      ∷ relieved_from (suc band) messages flows

  -- some band from one up has a writer waiting and has come down to its low mark
  abbrev pub relieves_from : ℕ → List (Message C) → List Flow → Bool
  relieves_from band messages [] = false
  relieves_from band messages (flow ∷ flows) =
      (flow.want_write && nat_le (count_of band messages) flow.low) || relieves_from (suc band) messages flows

  -- the queue after bytes were taken from it: its waiting writers are let go
  abbrev pub relieved : Queue C → Queue C
  relieved q = record q { flows = relieved_from 0 q.messages q.flows }

  -- whether a writer is let go, and with it the nearest earlier queue that has service is enabled
  abbrev pub relieves : Queue C → Bool
  relieves q = relieves_from 0 q.messages q.flows

-- a band's flow whose writer waits
abbrev pub with_writer : Flow → Flow
with_writer flow = record flow { want_write = true }

-- the flows in which the writer of one band waits
abbrev pub with_writer_at : ℕ → List Flow → List Flow
with_writer_at band [] = []
with_writer_at zero (flow ∷ flows) = with_writer flow ∷ flows
with_writer_at (suc band) (flow ∷ flows) = flow ∷ with_writer_at band flows

-- a band's flow with other marks
abbrev pub with_marks : ℕ → ℕ → Flow → Flow
with_marks high low flow = record flow { high = high; low = low }

-- the queue with the same marks in each of its bands
abbrev pub marked : {C : Type 0} → ℕ → ℕ → Queue C → Queue C
marked high low q = record q { flows = map (with_marks high low) q.flows }

-- an empty queue with the same marks in each of its bands
abbrev pub new_queue : {C : Type 0} → ℕ → ℕ → Queue C
new_queue high low = record {
  messages = [];
  flows = replicate BANDS (record { high = high; low = low; want_write = false });
  want_read = true;
  no_enable = false;
}

-- the same queue of other cells
abbrev pub map_messages : {C D : Type 0} → (C → D) → List (Message C) → List (Message D)
map_messages f q = map (map_message f) q

abbrev pub map_queue : {C D : Type 0} → (C → D) → Queue C → Queue D
map_queue f q = record { messages = map_messages f q.messages; flows = q.flows; want_read = q.want_read; no_enable = q.no_enable }
