-- What the fields of a table store stand for, and what holds of them.
use Rattle.std.specs.Prelude.{ℕ, ◌≡◌, ◌≤◌, ◌<◌, ◌+◌, ◌-◌, List, [], length, map, sum_by, slice_index_or, slice_range}
use Rattle.strm_types.specs.declared.limits.TheConstants.{LISTS}
use Rattle.strm_blocks.specs.Blocks.{Block, Held, StoreValue}
use Rattle.strm_blocks.specs.Message.{weigh, block_count, lacking, named, naming, askew, AreOrdered}
use Rattle.strm_blocks.specs.declared.message.Message.{Message}
use Rattle.strm_blocks.specs.declared.message.MessageBlock.{MessageBlock}
use Rattle.strm_blocks.specs.Pool.{Pool}
use Rattle.strm_blocks.specs.declared.table.TableStore.TheInside.{Inside}

-- what a block shows, of these data blocks
abbrev pub shown : List (List ℕ) → MessageBlock → Block
shown bytes b = record {
  kind = b.kind;
  band = b.band;
  number = b.number;
  bytes = slice_range (slice_index_or bytes b.number []) b.start b.end;
  room = 256 - b.end;
}

abbrev pub chain_of : List (List ℕ) → Message → List Block
chain_of bytes m = map (shown bytes) m.blocks

abbrev pub held_of : List (List ℕ) → Message → Held
held_of bytes m = record { name = m.name; chain = chain_of bytes m }

abbrev pub lists_of : List (List ℕ) → List (List Message) → List (List (List Block))
lists_of bytes lists = map (λ q. map (chain_of bytes) q) lists

abbrev pub hand_of : List (List ℕ) → List Message → List Held
hand_of bytes hand = map (held_of bytes) hand

abbrev pub value_of : Inside → StoreValue
value_of t = record {
  lists = lists_of t.data.bytes t.lists;
  hand = hand_of t.data.bytes t.hand;
  mblks = t.mblks;
  dblks = length t.data.references;
}

-- the places of a block are in order, within a data block that there is
pub record IsShown (pool : Pool) (b : MessageBlock) : Type 0 where
  pub there : b.number < length pool.references
  pub ordered : b.start ≤ b.end
  pub within : b.end ≤ 256

-- There are `LISTS` lists. Each message block is spare or a message's, and each message is idle, on a list or in hand.
-- Those that aren't idle have a block. No name is that of two messages. The references of a data block are the blocks
-- that name it. Each block's places are in order, within its data block. Each list is in order of rank.
pub record IsTable (mblks : ℕ) (lists : List (List Message)) (hand idle : List Message) (spare : List MessageBlock) (references : List ℕ) : Type 0 where
  pub eight : length lists ≡ LISTS
  pub few : mblks ≤ 65536
  pub blocks : length spare + weigh block_count lists hand ≡ mblks
  pub messages : length idle + weigh (λ _. 1) lists hand ≡ mblks
  pub filled : weigh lacking lists hand ≡ 0
  pub apart : (i : ℕ) → sum_by (named i) idle + weigh (named i) lists hand ≤ 1
  pub referenced : (d : ℕ) → slice_index_or references d 0 ≡ weigh (naming d) lists hand
  pub straight : weigh askew lists hand ≡ 0
  pub ordered : AreOrdered lists

abbrev pub IsTableStore : Inside → Type 0
IsTableStore t = IsTable t.mblks t.lists t.hand t.idle t.spare t.data.references
