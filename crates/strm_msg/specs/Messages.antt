-- What a chain of blocks stands for: a message without blocks (STREAMS Programming Guide, "Message Structure").
use Rattle.std.specs.Prelude.{ℕ, true, ◌≡◌, ◌<◌, if◌then◌else◌, List, [], ◌∷◌, ◌++◌, length, Option, None, Some}
use Rattle.std.specs.List.{AllByRecursion}
use Rattle.strm_types.specs.declared.kinds.MsgKind.{MsgKind}
use Rattle.strm_types.specs.declared.kinds.MsgKind.TheVariants as kinds
use Rattle.strm_types.specs.Ranked as ranked
use Rattle.strm_types.specs.Message.{Message, is_high_priority}
use Rattle.strm_types.specs.Flush.{is_data_kind}
use Rattle.strm_blocks.specs.Blocks.{Block, block_at, rank_of}
use Rattle.strm_types.specs.Kinds.{is_control_kind}
use Rattle.strm_msg.specs.Bytes.{bytes_of, control_blocks, data_blocks}

-- a part of a message: the bytes of its blocks, absent where it has no block
abbrev pub part_of : List Block → Option (List ℕ)
part_of [] = None
part_of (b ∷ blocks) = Some (bytes_of (b ∷ blocks))

-- A chain has the kind and the band of its first block. Each block is read from its read place to its write place, along
-- the chain, and joined to its part; messages of other kinds than M_DATA, M_PROTO and M_PCPROTO have no parts.
unfoldable pub message_of : List Block → Message ℕ
message_of chain =
    let first = block_at 0 chain in
    if is_data_kind first.kind
    then record { kind = first.kind; band = first.band; control = part_of (control_blocks chain); body = part_of (data_blocks chain); plain = [] }
    else record { kind = first.kind; band = first.band; control = None; body = None; plain = bytes_of chain }

-- M_DATA blocks
abbrev pub AreData : List Block → Type 0
AreData blocks = AllByRecursion (λ b. b.kind ≡ kinds.Data) blocks

-- blocks of one kind, at least one, which are the control part, and behind them M_DATA blocks
pub record IsParted (kind : MsgKind) (chain : List Block) : Type 0 where
  pub front : List Block
  pub behind : List Block
  pub joined : chain ≡ front ++ behind
  pub some : 0 < length front
  pub of_kind : AllByRecursion (λ b. b.kind ≡ kind) front
  pub of_data : AreData behind

-- A chain that is a message. An M_DATA message has M_DATA blocks; an M_PROTO or M_PCPROTO message has blocks of its kind
-- and then M_DATA blocks; what stands behind the first block of any other one is free. A message of high priority has band
-- 0.
pub record IsChain (chain : List Block) : Type 0 where
  pub some : 0 < length chain
  pub all_data : (block_at 0 chain).kind ≡ kinds.Data → AreData chain
  pub parted : is_control_kind (block_at 0 chain).kind ≡ true → IsParted (block_at 0 chain).kind chain
  pub high : is_high_priority (block_at 0 chain).kind ≡ true → (block_at 0 chain).band ≡ 0
  pub low : (block_at 0 chain).band < 256

-- chains that are messages, in order of rank, as a list of a store has them
pub record AreMessages (q : List (List Block)) : Type 0 where
  pub chains : AllByRecursion IsChain q
  pub ordered : ranked.IsOrdered rank_of q
