-- How a queue is kept beside its list in a store (queue(9S), STREAMS Programming Guide, "Message Queues").
use Rattle.std.specs.Prelude.{◌≡◌, ℕ, ◌+◌, Bool, false, not, ◌&&◌, ◌||◌, ◌==◌, nat_le, nat_lt, ◌≤◌, ◌<◌, if◌then◌else◌, List, length, sum_by, slice_index_or}
use Rattle.std.specs.List.{AllByRecursion}
use Rattle.strm_types.specs.Message.{is_high_priority}
use Rattle.strm_types.specs.declared.limits.TheConstants.{BANDS}
use Rattle.strm_types.specs.declared.options.Marks.{Marks}
use Rattle.strm_types.specs.Flush.{is_data_kind, counted_band}
use Rattle.strm_blocks.specs.Blocks.{Block, block_at}
use Rattle.strm_queue.specs.declared.flow.Flow.{Flow}
use Rattle.strm_queue.specs.Flows.{IsMarked, count_in, plain_flow, at_rest}

-- how many bytes a message has, all of them
abbrev pub bytes_of : List Block → ℕ
bytes_of chain = sum_by (λ b. length b.bytes) chain

-- the band in which a message's bytes count: those of high priority count in band 0
abbrev pub band_of : List Block → ℕ
band_of chain = counted_band (block_at 0 chain).kind (block_at 0 chain).band

-- whether a message is of a kind that a flush of data takes
abbrev pub is_data : List Block → Bool
is_data chain = is_data_kind (block_at 0 chain).kind

-- the bytes of a message of data
abbrev pub data_bytes_of : List Block → ℕ
data_bytes_of chain = if is_data chain then bytes_of chain else 0

-- what a message adds to a band's bytes of data, and to its other bytes
abbrev pub data_share : ℕ → List Block → ℕ
data_share band chain = if band_of chain == band && is_data chain then bytes_of chain else 0

abbrev pub other_share : ℕ → List Block → ℕ
other_share band chain = if band_of chain == band && not (is_data chain) then bytes_of chain else 0

-- how many bytes count in a band
abbrev pub count_of : ℕ → List (List Block) → ℕ
count_of band q = sum_by (λ chain. if band_of chain == band then bytes_of chain else 0) q

-- a band is full exactly while its count is at or above its high-water mark
abbrev pub is_full : ℕ → ℕ → List (List Block) → Bool
is_full high band q = nat_le high (count_of band q)

-- the flow control of a band that there isn't
abbrev pub no_flow : Flow
no_flow = record { data_bytes = 0; other_bytes = 0; high = 0; low = 0; full = false; want_write = false }

-- the flow control of a band
abbrev pub flow_at : ℕ → List Flow → Flow
flow_at band flows = slice_index_or flows band no_flow

-- the kept numbers of a band are those of its messages
pub record IsCounted (band : ℕ) (f : Flow) (q : List (List Block)) : Type 0 where
  pub data_sum : f.data_bytes ≡ sum_by (data_share band) q
  pub other_sum : f.other_bytes ≡ sum_by (other_share band) q
  pub marked : IsMarked f

-- each message counts in a band that a queue has
abbrev pub AllBands : List (List Block) → Type 0
AllBands q = AllByRecursion (λ chain. band_of chain < BANDS) q

-- The numbers that are kept for each of a queue's bands are those of the messages on a list.
pub record AreCounted (flows : List Flow) (q : List (List Block)) : Type 0 where
  pub eight : length flows ≡ BANDS
  pub bands : AllBands q
  pub each : (band : ℕ) → band < BANDS → IsCounted band (flow_at band flows) q

-- whether a put enables a queue that has a service procedure
abbrev pub enables : List Block → Bool → Bool → Bool
enables chain want_read no_enable = is_high_priority (block_at 0 chain).kind || (not no_enable && (nat_lt 0 (band_of chain) || want_read))

-- the counts are small enough to add: a store has 65536 blocks of 256 bytes at most
abbrev pub FewBytes : List Flow → Type 0
FewBytes flows = (band : ℕ) → count_in (flow_at band flows) ≤ 16777216

-- the flow control of a queue's bands: there is one of each, with such counts, and that of band 0 says when it is full
pub record AreFlows (flows : List Flow) : Type 0 where
  pub eight : length flows ≡ BANDS
  pub few : FewBytes flows
  pub marked : IsMarked (flow_at 0 flows)

-- all bands above 0 have these marks, and no writer waits for one of them
abbrev pub RestAbove : Marks → List Flow → Type 0
RestAbove marks flows = (band : ℕ) → 0 < band → band < BANDS → plain_flow (flow_at band flows) ≡ at_rest marks

-- the same of a list that has the bands from 1 up
abbrev pub AllRest : Marks → List Flow → Type 0
AllRest marks flows = (at : ℕ) → at + 1 < BANDS → plain_flow (flow_at at flows) ≡ at_rest marks
