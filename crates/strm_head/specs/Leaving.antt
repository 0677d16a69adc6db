-- What a read or a get leaves on its list, and which blocks it frees (read(2), getmsg(2), freeb(9F)).
use Rattle.std.specs.Prelude.{ℕ, ◌≡◌, ◌<◌, ◌+◌, ◌⊎◌, List, ◌∷◌, length, drop, map, sum_by}
use Rattle.strm_head.specs.Prelude.{Block, StoreValue, list_at, put_back, names_of, free_m, without_bytes, without_emptied}
use Rattle.strm_blocks.specs.Blocks.{references}

-- so many messages were taken away
pub record Taken (old new : List (List Block)) : Type 0 where
  pub count : ℕ
  pub is : new ≡ drop count old

-- The first message lost bytes, and its blocks that show none then are freed: each block of what is put back shows bytes.
pub record PartTaken (old new : List (List Block)) : Type 0 where
  pub message : List Block
  pub others : List (List Block)
  pub cut : List Block
  pub blocks : map without_bytes cut ≡ map without_bytes message
  pub was : old ≡ message ∷ others
  pub is : new ≡ put_back (without_emptied cut) others

-- Messages were taken away, and then perhaps a part of the first one that was left.
pub record Leaves (old new : List (List Block)) : Type 0 where
  pub between : List (List Block)
  pub whole : Taken old between
  pub last : (new ≡ between) ⊎ PartTaken between new

-- The same by a step of a read, which wants so many bytes still: none behind a part.
pub record StepLeaves (more : ℕ) (old new : List (List Block)) : Type 0 where
  pub leaves : Leaves old new
  pub whole : 0 < more → Taken old new

-- All message blocks that left the list are free then, and they name no data block any more.
pub record Frees (old new : StoreValue) (k : ℕ) : Type 0 where
  pub left : Leaves (list_at old k) (list_at new k)
  pub message_blocks : free_m new + sum_by length (list_at new k) ≡ free_m old + sum_by length (list_at old k)
  pub data_blocks : (d : ℕ) → references new d + sum_by (names_of d) (list_at old k) ≡ references old d + sum_by (names_of d) (list_at new k)
