-- A message that was made to go down a stream.
use Rattle.std.specs.Prelude.{ℕ, ◌≡◌, ◌+◌, List, [], ◌∷◌, Option, option_map}
use Rattle.std.specs.Borrow.{Bor}
use Rattle.strm_head.specs.Prelude.{MsgKind, Prio, High, Band, Message, StoreValue, in_hand, held, free_m, free_d, message_of, IsChain}
use Rattle.strm_types.specs.declared.kinds.MsgKind.TheVariants.{Proto, Pcproto}
use Rattle.strm_blocks.specs.Blocks.{IsFreshName}

-- the bytes of a part that a caller lends
abbrev pub lent : Option (Bor (List ℕ)) → Option (List ℕ)
lent part = option_map (λ bytes. bytes.now) part

-- the kind of a message that has a control part
abbrev pub control_kind : Prio → MsgKind
control_kind High = Pcproto
control_kind (Band band) = Proto

-- how many blocks of each kind an M_IOCTL takes: one for its header, and one for its bytes where there are some
abbrev pub ioctl_blocks : List ℕ → ℕ
ioctl_blocks [] = 1
ioctl_blocks (_ ∷ _) = 2

-- One message was made, in so many blocks of each kind, and nothing else changed. It stands for this one.
pub record Sends (old new : StoreValue) (name : ℕ) (message : Message ℕ) (blocks : ℕ) : Type 0 where
  pub fresh : IsFreshName old name
  pub after : new ≡ held old name (in_hand new name)
  pub room_m : free_m new + blocks ≡ free_m old
  pub room_d : free_d new + blocks ≡ free_d old
  pub chain : IsChain (in_hand new name)
  pub shows : message_of (in_hand new name) ≡ message
