-- The blocks that a message of a text is made of (linkb(9F); STREAMS Programming Guide, "Message Structure"; docs/IMAGES.md), and what making
-- messages does to a store.
use Rattle.std.specs.Prelude.{ℕ, ◌≡◌, ◌<◌, ◌+◌, if◌then◌else◌, List, [], ◌∷◌, ◌++◌, take, drop, length, Option, None, Some}
use Rattle.std.specs.List.{AllByRecursion}
use Rattle.strm_pair.specs.Prelude.{MsgKind, is_control_kind, Message, chunk_count, Block, StoreValue, IsFreshName, block_at, held, free_m, free_d}
use Rattle.strm_pair.specs.Prelude.{message_of, part_of, AreData, IsChain, part_blocks, Parts, bytes_in, is_ioctl_kind}
use Rattle.strm_types.specs.Queue as plain
use Rattle.strm_msg.specs.Bytes.{bytes_of}

-- the bytes that blocks of the message's kind show, and those of the M_DATA blocks behind them, where there are any
abbrev pub Runs : Type 0
Runs = List ℕ × Option (List ℕ)

-- bytes that have no block where there are none
abbrev pub if_some : List ℕ → Option (List ℕ)
if_some [] = None
if_some (b ∷ bytes) = Some (b ∷ bytes)

-- The header of an ioctl stands in front, and its payload behind it; a control part in front, and a data part behind it; all bytes of
-- any other kind stand in front.
abbrev pub runs_of : Parts → Runs
runs_of (k, (band, (control, body))) =
    if is_ioctl_kind k then (take 16 (bytes_in body), if_some (drop 16 (bytes_in body)))
    else (if is_control_kind k then (bytes_in control, body) else (bytes_in body, None))

-- how many blocks they take: one for each begun 256 bytes, at least one
abbrev pub run_blocks : Runs → ℕ
run_blocks (front, behind) = chunk_count (length front) + part_blocks behind

-- blocks of a kind, at least one, that show these bytes; the first one has the band
pub record IsRun (kind : MsgKind) (band : ℕ) (bytes : List ℕ) (chain : List Block) : Type 0 where
  pub some : 0 < length chain
  pub of_kind : AllByRecursion (λ b. b.kind ≡ kind) chain
  pub band_is : (block_at 0 chain).band ≡ band
  pub shows : bytes_of chain ≡ bytes

-- M_DATA blocks that are a data part, which may be absent
pub record IsPart (bytes : Option (List ℕ)) (chain : List Block) : Type 0 where
  pub of_data : AreData chain
  pub is : part_of chain ≡ bytes

-- so many blocks of each kind were taken
pub record Spent (old new : StoreValue) (count : ℕ) : Type 0 where
  pub mblks : free_m new + count ≡ free_m old
  pub dblks : free_d new + count ≡ free_d old

-- the queue with other messages
abbrev pub with_messages : List (Message ℕ) → plain.Queue ℕ → plain.Queue ℕ
with_messages messages q = record q { messages = messages }

-- a new message of blocks of a kind, and of M_DATA blocks behind them
pub record Joins (old new : StoreValue) (name : ℕ) (kind : MsgKind) (band : ℕ) (runs : Runs) : Type 0 where
  pub front : List Block
  pub behind : List Block
  pub run : IsRun kind band runs.0 front
  pub part : IsPart runs.1 behind
  pub fresh : IsFreshName old name
  pub spent : Spent old new (run_blocks runs)
  pub after : new ≡ held old name (front ++ behind)

-- a new message that stands for a plain one, of so many blocks
pub record Makes (old new : StoreValue) (name count : ℕ) (m : Message ℕ) : Type 0 where
  pub chain : List Block
  pub one : IsChain chain
  pub is : message_of chain ≡ m
  pub fresh : IsFreshName old name
  pub spent : Spent old new count
  pub after : new ≡ held old name chain
