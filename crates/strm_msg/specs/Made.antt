-- What the calls that make messages lead to (dupmsg(9F), copymsg(9F)).
use Rattle.std.specs.Prelude.{ℕ, ◌≡◌, ◌≤◌, ◌<◌, ◌+◌, ◌⊎◌, List, [], ◌∷◌, length, map}
use Rattle.strm_types.specs.declared.kinds.MsgKind.{MsgKind}
use Rattle.strm_types.specs.Write.{chunk_count, chunks_of}
use Rattle.strm_msg.specs.Bytes.{bytes_of, control_bytes, data_bytes}
use Rattle.strm_blocks.specs.Blocks.{in_hand, Block, StoreValue, held, references, names_of, free_m, free_d, copy_of, IsFreshName}

-- copies of blocks, in data blocks of these numbers
abbrev pub copies_of : List ℕ → List Block → List Block
copies_of [] blocks = []
copies_of (number ∷ numbers) [] = []
copies_of (number ∷ numbers) (b ∷ blocks) = copy_of number b ∷ copies_of numbers blocks

-- a block of a kind and a band that shows these bytes, whatever its data block
abbrev pub piece : MsgKind → ℕ → List ℕ → Block
piece kind band bytes = record { kind = kind; band = band; number = 0; bytes = bytes; room = 0 }

-- bytes in pieces of at most 256, one for each begun 256 bytes and at least one
abbrev pub pieces : MsgKind → ℕ → List ℕ → List Block
pieces kind band bytes = map (piece kind band) (chunks_of (chunk_count (length bytes)) bytes)

-- A new message whose blocks show what those of another chain show: one block of each kind is taken for each. Each data
-- block that it names is named once, and by nothing before.
pub record Made (old new : StoreValue) (name : ℕ) (like : List Block) : Type 0 where
  pub numbers : List ℕ
  pub count : length numbers ≡ length like
  pub room_m : free_m new + length like ≡ free_m old
  pub room_d : free_d new + length like ≡ free_d old
  pub fresh_name : IsFreshName old name
  pub own : (d : ℕ) → 0 < names_of d (copies_of numbers like) → references old d + names_of d (copies_of numbers like) ≡ 1
  pub shown : bytes_of (copies_of numbers like) ≡ bytes_of like
  pub control : control_bytes (copies_of numbers like) ≡ control_bytes like
  pub body : data_bytes (copies_of numbers like) ≡ data_bytes like
  pub after : new ≡ held old name (copies_of numbers like)

-- a new message of pieces, which show these bytes
pub record MadeOf (old new : StoreValue) (name : ℕ) (kind : MsgKind) (band : ℕ) (bytes : List ℕ) : Type 0 where
  pub made : Made old new name (pieces kind band bytes)
  pub shows : bytes_of (in_hand new name) ≡ bytes

-- fewer blocks of one of the two kinds are free than a call makes, and nothing changed
pub record TooFew (old new : StoreValue) (count : ℕ) : Type 0 where
  pub few : (free_m old < count) ⊎ (free_d old < count)
  pub same : new ≡ old

-- A new message whose blocks show the same bytes of the same data blocks: one message block is taken for each.
pub record Shared (old new : StoreValue) (name : ℕ) (chain : List Block) : Type 0 where
  pub room_m : free_m new + length chain ≡ free_m old
  pub room_d : free_d new ≡ free_d old
  pub room_r : (d : ℕ) → references old d + names_of d chain ≤ 255
  pub fresh_name : IsFreshName old name
  pub after : new ≡ held old name chain

-- fewer message blocks are free than a chain has, or a data block would have more than 255 references, and nothing changed
pub record Unshared (old new : StoreValue) (chain : List Block) : Type 0 where
  pub few : (free_m old < length chain) ⊎ ((d : ℕ) × (255 < references old d + names_of d chain))
  pub same : new ≡ old
