-- A message in hand that another one, or the same one with less of it, has come for.
use Rattle.std.specs.Prelude.{ℕ, ◌≡◌, ◌<◌, length}
use Rattle.strm_ldterm.specs.Prelude.{Message, StoreValue, block_at, in_hand, once, Shifts, message_in}
use Rattle.strm_ldterm.specs.Stands.{IsData}

-- The first block of a message in hand has bytes, or it is the only one.
abbrev pub IsFronted : StoreValue → ℕ → Type 0
IsFronted s i = 1 < length (in_hand s i) → 0 < length (block_at 0 (in_hand s i)).bytes

-- M_DATA in hand is in hand under a name that may be another one, and stands for `m`. No list changed, and no block was taken.
pub record Becomes (old new : StoreValue) (i j : ℕ) (m : Message ℕ) : Type 0 where
  pub lists : new.lists ≡ old.lists
  pub hands : Shifts old new (once i) (once j) 0
  pub is : IsData new j
  pub shows : message_in new j ≡ m
