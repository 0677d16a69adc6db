-- The data blocks of a store as its other parts see them.
use Rattle.std.specs.Prelude.{ℕ, ◌≡◌, ◌≤◌, ◌<◌, ◌+◌, ◌==◌, ◌⊎◌, nat_lt, if◌then◌else◌, List, [], ◌++◌, length, count_by, slice_index_or, slice_range, slice_set}

-- the bytes of all data blocks, and how many references each has
pub record Pool : Type 0 where
  pub bytes : List (List ℕ)
  pub references : List ℕ

-- the data blocks with another number of references at one of them
abbrev pub with_references : Pool → ℕ → ℕ → Pool
with_references p d n = record p { references = slice_set p.references d n }

-- none of them is free, and nothing changed
pub record IsNoneLeft (old new : Pool) : Type 0 where
  pub none : count_by (λ r. r == 0) old.references ≡ 0
  pub same : new ≡ old

-- one that was free has one reference
pub record TakesNumber (old new : Pool) (d : ℕ) : Type 0 where
  pub some : 0 < count_by (λ r. r == 0) old.references
  pub within : d < length old.references
  pub was_free : slice_index_or old.references d 0 ≡ 0
  pub after : new ≡ with_references old d 1

-- one that was free has one reference, and a message block is spare for it
pub record Reserves (spare : ℕ) (old new : Pool) (d : ℕ) : Type 0 where
  pub some : 0 < spare
  pub taken : TakesNumber old new d

-- no message block is spare or no data block is free, and nothing changed
pub record ReservesNone (spare : ℕ) (old new : Pool) : Type 0 where
  pub none : (spare ≡ 0) ⊎ (count_by (λ r. r == 0) old.references ≡ 0)
  pub same : new ≡ old

-- Bytes are written into one data block. What stood before them still stands before them, and no other data block
-- changes.
pub record WritesBytes (old new : Pool) (d at : ℕ) (bytes : List ℕ) : Type 0 where
  pub content : List ℕ
  pub after : new ≡ record old { bytes = slice_set old.bytes d content }
  pub shown : (start : ℕ) → start ≤ at → slice_range content start (at + length bytes) ≡ slice_range (slice_index_or old.bytes d []) start at ++ bytes

-- how often a number stands in a list
abbrev pub times : ℕ → List ℕ → ℕ
times n xs = count_by (λ x. x == n) xs

-- 1 for a data block that has a reference, and 1 for one that exists
abbrev pub is_named : List ℕ → ℕ → ℕ
is_named references n = if slice_index_or references n 0 == 0 then 0 else 1

abbrev pub is_there : List ℕ → ℕ → ℕ
is_there references n = if nat_lt n (length references) then 1 else 0

-- each data block that has no reference stands in a list once, and nothing else does
pub record IsFreeList (free references : List ℕ) : Type 0 where
  pub listed : (n : ℕ) → times n free + is_named references n ≡ is_there references n
  pub counted : length free ≡ count_by (λ r. r == 0) references
