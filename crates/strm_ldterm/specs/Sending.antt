-- A message that the module ldterm makes.
use Rattle.std.specs.Prelude.{ℕ, ◌≡◌, ◌+◌}
use Rattle.strm_ldterm.specs.Prelude.{Message, StoreValue, IsFreshName, in_hand, held, free_m, free_d, message_of, IsChain}

-- One message was made in one block of each kind, and it stands for `m`.
pub record MadeOne (old new : StoreValue) (name : ℕ) (m : Message ℕ) : Type 0 where
  pub fresh : IsFreshName old name
  pub after : new ≡ held old name (in_hand new name)
  pub room_m : free_m new + 1 ≡ free_m old
  pub room_d : free_d new + 1 ≡ free_d old
  pub chain : IsChain (in_hand new name)
  pub shows : message_of (in_hand new name) ≡ m
