-- A message whose data part has other bytes, by a table of 256 (a code page).
use Rattle.std.specs.Prelude.{ℕ, ◌≡◌, ◌<◌, ◌+◌, ◌==◌, if◌then◌else◌, List, [], ◌∷◌, ◌++◌, length, map, option_map, slice_index_or}
use Rattle.strm_types.specs.Kinds.{is_body_kind}
use Rattle.strm_types.specs.Message.{Message}
use Rattle.strm_blocks.specs.Blocks.{Block, IsInHand, StoreValue, block_at, dropped, filled_block, free_m, in_hand, times_in}
use Rattle.strm_msg.specs.Emptied.{Beside}
use Rattle.strm_msg.specs.Messages.{IsChain, message_of}

-- bytes, each with that of the table in its place
abbrev pub translated : List ℕ → List ℕ → List ℕ
translated table bytes = map (λ b. slice_index_or table b 0) bytes

-- a block, whatever its data block
abbrev pub shown_block : Block → Block
shown_block b = filled_block b.kind b.band b.bytes

-- the same with other bytes, where it is of the data part
abbrev pub translated_block : List ℕ → Block → Block
translated_block table b = filled_block b.kind b.band (if is_body_kind b.kind then translated table b.bytes else b.bytes)

-- a message with other bytes in its data part
abbrev pub translated_message : List ℕ → Message ℕ → Message ℕ
translated_message table m = record m { body = option_map (translated table) m.body }

-- A message is in hand in place of another one. Its last block is the first of that one, with other bytes, and the blocks in
-- front of it are named.
pub record Rotated (old new : StoreValue) (message name : ℕ) (table : List ℕ) (front : List Block) : Type 0 where
  pub block : Block
  pub shown : shown_block block ≡ translated_block table (block_at 0 (in_hand old message))
  pub beside : Beside (dropped old message) new name (front ++ block ∷ [])

-- 1 for the name itself
abbrev pub one_of : ℕ → ℕ → ℕ
one_of name j = if name == j then 1 else 0

-- A message in hand has gone, and one that has other bytes in its data part is there. It has as many blocks, so as many
-- message blocks are free. No list changed, and the other messages in hand are as they were.
pub record Translated (old new : StoreValue) (message name : ℕ) (table : List ℕ) : Type 0 where
  pub here : IsInHand new name
  pub shown : message_of (in_hand new name) ≡ translated_message table (message_of (in_hand old message))
  pub blocks : length (in_hand new name) ≡ length (in_hand old message)
  pub one : IsChain (in_hand new name)
  pub lists : new.lists ≡ old.lists
  pub mblks : new.mblks ≡ old.mblks
  pub dblks : new.dblks ≡ old.dblks
  pub free_m_same : free_m new ≡ free_m old
  pub counts : (j : ℕ) → times_in j new.hand + one_of message j ≡ times_in j old.hand + one_of name j
  pub others : (j : ℕ) → one_of message j ≡ 0 → 0 < times_in j old.hand → in_hand new j ≡ in_hand old j
