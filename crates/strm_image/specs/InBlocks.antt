-- Messages in blocks: what holds of how they stand in a store, without saying which one.
use Rattle.std.specs.Prelude.{◌≡◌, ◌≤◌, ◌+◌, ◌-◌, ◌*◌, ℕ, true, List, length, Option, is_some}
use Rattle.strm_image.specs.Prelude.{BLOCK_SIZE, Message}
use Rattle.strm_image.specs.Messages.{bytes_in, is_ioctl_kind, message_parts}

-- a part in so many blocks, one at least where it is there: each has at most 256 bytes
pub record IsInBlocks (blocks : ℕ) (part : Option (List ℕ)) : Type 0 where
  pub room : length (bytes_in part) ≤ BLOCK_SIZE * blocks
  pub some : is_some part ≡ true → 1 ≤ blocks

-- A message in so many blocks of its control part and of its data part, which has all bytes of a message without parts. The header of an
-- ioctl has a block of its own (sys/stream.h: struct iocblk).
pub record IsMessageInBlocks (of_control of_data : ℕ) (m : Message ℕ) : Type 0 where
  pub control : IsInBlocks of_control (message_parts m).1.1.0
  pub body : IsInBlocks of_data (message_parts m).1.1.1
  pub header : is_ioctl_kind m.kind ≡ true → (1 ≤ of_data) × (length (bytes_in (message_parts m).1.1.1) ≤ 16 + BLOCK_SIZE * (of_data - 1))
