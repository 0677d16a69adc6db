-- The text of a queue: its flags, the flow control of its bands, and its messages.
use Rattle.std.specs.Prelude.{◌≡◌, ◌<◌, ℕ, zero, suc, ◌+◌, ◌-◌, Bool, true, false, not, ◌&&◌, ◌==◌, nat_lt, nat_le, if◌then◌else◌, List, [], ◌∷◌, ◌++◌, length, drop, take, replicate, slice_index_or}
use Rattle.strm_image.specs.Prelude.{BANDS, Marks, Message, Flow, Queue}
use Rattle.strm_image.specs.declared.versions.QueueKind.{QueueKind}
use Rattle.strm_image.specs.declared.versions.QueueKind.TheVariants as queues
use Rattle.strm_image.specs.declared.versions.Version.{Version}
use Rattle.strm_image.specs.declared.versions.Version.TheVariants.{First, Second}
use Rattle.strm_image.specs.declared.versions.TheConstants.{FIRST_BANDS}
use Rattle.strm_image.specs.Codes.{flag}
use Rattle.strm_image.specs.Format.{Format, byte, u16, u32, only, times, counted, chain, ◌then◌, made, coded}
use Rattle.strm_image.specs.Messages.{any, messages}

-- ---- the flow control of a band

-- the high-water mark, the low-water mark, and whether a writer waits
abbrev pub marks_fit : ℕ × (ℕ × Bool) → Bool
marks_fit (high, (low, waits)) = nat_le 1 high && nat_le low high

abbrev pub flow_of : ℕ × (ℕ × Bool) → Flow
flow_of (high, (low, waits)) = record { high = high; low = low; want_write = waits }

abbrev pub flow_parts : Flow → ℕ × (ℕ × Bool)
flow_parts f = (f.high, (f.low, f.want_write))

unfoldable pub flow : Format Flow
flow = made any flow_of flow_parts (only marks_fit (u32 then (u32 then flag)))

abbrev pub same_bool : Bool → Bool → Bool
same_bool true b = b
same_bool false b = not b

abbrev pub same_flow : Flow → Flow → Bool
same_flow f g = f.high == g.high && (f.low == g.low && same_bool f.want_write g.want_write)

-- the flow control of a band that there isn't
abbrev pub no_flow : Flow
no_flow = record { high = 0; low = 0; want_write = false }

-- all bands above 0 have these marks, and no writer waits for one of them
abbrev pub RestAbove : Marks → List Flow → Type 0
RestAbove marks fs = (band : ℕ) → 0 < band → band < BANDS → slice_index_or fs band no_flow ≡ record { high = marks.high; low = marks.low; want_write = false }

-- ---- all bands in version 1

-- Version 1 lists the first bands. Those behind them have the marks of the last one, and no writer waits for them.
abbrev pub behind_last : List Flow → Flow
behind_last fs = record (slice_index_or fs (FIRST_BANDS - 1) no_flow) { want_write = false }

abbrev pub widened : List Flow → List Flow
widened fs = fs ++ replicate (BANDS - FIRST_BANDS) (behind_last fs)

abbrev pub first_ones : List Flow → List Flow
first_ones fs = take FIRST_BANDS fs

abbrev pub same_flows : List Flow → List Flow → Bool
same_flows [] [] = true
same_flows (f ∷ fs) (g ∷ gs) = same_flow f g && same_flows fs gs
same_flows _ _ = false

abbrev pub is_widened : List Flow → Bool
is_widened fs = same_flows fs (widened (first_ones fs))

unfoldable pub few_flows : Format (List Flow)
few_flows = times FIRST_BANDS flow

-- ---- all bands in version 2

-- the flow control of each band as a queue is made
abbrev pub first_flow : QueueKind → Flow
first_flow queues.Head = record { high = 5120; low = 1024; want_write = false }
first_flow _ = record { high = 512; low = 128; want_write = false }

-- The bands that aren't as they were at first are listed, in rising order. So many bands from one up, where these are listed:
abbrev pub spread : Flow → ℕ → ℕ → List (ℕ × Flow) → List Flow
spread first i zero es = []
spread first i (suc n) [] = first ∷ spread first (suc i) n []
spread first i (suc n) (e ∷ es) = if e.0 == i then e.1 ∷ spread first (suc i) n es else first ∷ spread first (suc i) n (e ∷ es)

-- those of the bands from one up that are listed
abbrev pub listed : Flow → ℕ → List Flow → List (ℕ × Flow)
listed first i [] = []
listed first i (f ∷ fs) = if same_flow f first then listed first (suc i) fs else (i, f) ∷ listed first (suc i) fs

-- none is listed from one on
abbrev pub IsNoneFrom : Flow → ℕ → List Flow → Type 0
IsNoneFrom first i fs = listed first i (drop i fs) ≡ []

-- a band from one up, with other flow control than at first
abbrev pub is_listed : Flow → ℕ → ℕ × Flow → Bool
is_listed first from e = (nat_le from e.0 && nat_lt e.0 BANDS) && not (same_flow e.1 first)

unfoldable pub listed_behind : Flow → ℕ → Format (ℕ × Flow)
listed_behind first from = only (is_listed first from) (byte then flow)

abbrev pub next_band : ℕ × Flow → ℕ → ℕ
next_band e from = e.0 + 1

abbrev pub entries : QueueKind → Format (List (ℕ × Flow))
entries at = counted u16 (chain next_band (listed_behind (first_flow at)) 0)

abbrev pub spread_out : QueueKind → List (ℕ × Flow) → List Flow
spread_out at es = spread (first_flow at) 0 BANDS es

abbrev pub list_out : QueueKind → List Flow → List (ℕ × Flow)
list_out at fs = listed (first_flow at) 0 fs

abbrev pub are_bands : List Flow → Bool
are_bands fs = length fs == BANDS

unfoldable pub flows : Version → QueueKind → Format (List Flow)
flows First at = made is_widened widened first_ones few_flows
flows Second at = made are_bands (spread_out at) (list_out at) (entries at)

-- ---- queues

-- 1 for want-read, and 2 where enabling is off
unfoldable pub flags_code : Bool × Bool → ℕ
flags_code (reads, off) = (if reads then 1 else 0) + (if off then 2 else 0)

unfoldable pub flags : Format (Bool × Bool)
flags = coded flags_code ((false, false) ∷ (true, false) ∷ (false, true) ∷ (true, true) ∷ [])

abbrev pub queue_of : (Bool × Bool) × (List Flow × List (Message ℕ)) → Queue ℕ
queue_of (bits, (fs, ms)) = record { messages = ms; flows = fs; want_read = bits.0; no_enable = bits.1 }

abbrev pub queue_parts : Queue ℕ → (Bool × Bool) × (List Flow × List (Message ℕ))
queue_parts q = ((q.want_read, q.no_enable), (q.flows, q.messages))

unfoldable pub queue : Version → QueueKind → Format (Queue ℕ)
queue v at = made any queue_of queue_parts (flags then (flows v at then messages v at))
