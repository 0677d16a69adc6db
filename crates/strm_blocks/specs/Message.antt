-- Lists of messages as the store's fields have them.
use Rattle.std.specs.Prelude.{ℕ, suc, Bool, option_map, ◌+◌, ◌-◌, ◌==◌, if◌then◌else◌, List, [], ◌∷◌, ◌++◌, length, take, drop, count_by, sum_by, slice_index_or}
use Rattle.std.specs.List.{position_or_len}
use Rattle.strm_types.specs.Ranked as ranked
use Rattle.strm_types.specs.Message.{is_high_priority}
use Rattle.strm_types.specs.Flush.{is_flushed}
use Rattle.strm_types.specs.declared.kinds.MsgKind.TheVariants as kinds
use Rattle.strm_blocks.specs.declared.asked.FlushWhat.{FlushWhat}
use Rattle.strm_blocks.specs.declared.message.Message.{Message}
use Rattle.strm_blocks.specs.declared.message.MessageBlock.{MessageBlock}

-- a message that stands for none, and a block that stands for none
abbrev pub no_message : Message
no_message = record { name = 0; blocks = [] }

abbrev pub no_row : MessageBlock
no_row = record { kind = kinds.Data; band = 0; number = 0; start = 0; end = 0 }

-- the message at a place of a list
abbrev pub message_at : ℕ → List Message → Message
message_at n q = slice_index_or q n no_message

-- the block at a place of a chain
abbrev pub row_at : ℕ → List MessageBlock → MessageBlock
row_at n chain = slice_index_or chain n no_row

-- a list without the message at a place
abbrev pub without_at : ℕ → List Message → List Message
without_at n q = take n q ++ drop (suc n) q

-- a message with other blocks
abbrev pub with_blocks : List MessageBlock → Message → Message
with_blocks blocks m = record m { blocks = blocks }

-- the place of the first message of a name, or the list's length where there is none
abbrev pub place_in : ℕ → List Message → ℕ
place_in i q = position_or_len (λ m. m.name == i) q

-- the rank of a message, by its first block
abbrev pub rank_in : List MessageBlock → ℕ
rank_in [] = 0
rank_in (b ∷ blocks) = if is_high_priority b.kind then 256 else b.band

abbrev pub listed_rank : Message → ℕ
listed_rank m = rank_in m.blocks

-- each list is in order of rank
abbrev pub AreOrdered : List (List Message) → Type 0
AreOrdered lists = (k : ℕ) → ranked.IsOrdered listed_rank (slice_index_or lists k [])

-- how many blocks of a message name a data block
abbrev pub naming : ℕ → Message → ℕ
naming d m = count_by (λ b. b.number == d) m.blocks

-- 1 for a message of a name
abbrev pub named : ℕ → Message → ℕ
named i m = if m.name == i then 1 else 0

-- how many blocks a message has, and 1 for one that has none
abbrev pub block_count : Message → ℕ
block_count m = length m.blocks

abbrev pub lacking : Message → ℕ
lacking m = 1 - length m.blocks

-- 0 for a message whose blocks all have their read place before their write place, within the data block
abbrev pub askew : Message → ℕ
askew m = sum_by (λ b. (b.start - b.end) + (b.end - 256)) m.blocks

-- the sum of a number over all messages, on the lists and in hand
abbrev pub weigh : (Message → ℕ) → List (List Message) → List Message → ℕ
weigh g lists hand = sum_by (λ q. sum_by g q) lists + sum_by g hand

-- whether a flush takes a message
abbrev pub flushes_message : FlushWhat → Message → Bool
flushes_message what m = is_flushed what.all (option_map (λ b. b.0) what.band) (row_at 0 m.blocks).kind (row_at 0 m.blocks).band
