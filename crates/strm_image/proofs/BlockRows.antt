-- A message in blocks takes no more of them when it is read from an image.
use Rattle.strm_image.proofs.Prelude.{◌≡◌, ℕ, ◌<◌, ◌≤◌, ◌+◌, ◌-◌, ◌*◌, Bool, true, false, cond, List, length, Option, None, Some, refl, arith}
use Rattle.strm_image.specs.Prelude.{BLOCK_SIZE, Message}
use Rattle.std.proofs.lemmas.Nat.{div_below}
use Rattle.strm_image.specs.InBlocks.{IsInBlocks, IsMessageInBlocks}
use Rattle.strm_image.specs.Loads.{begun, blocks_of, part_blocks}
use Rattle.strm_image.specs.Messages.{bytes_in, is_ioctl_kind, message_parts}

begun_few : (bytes blocks : ℕ) → bytes ≤ BLOCK_SIZE * blocks → begun bytes ≤ blocks
begun_few bytes blocks room = let low : begun bytes < blocks + 1 = div_below (bytes + (BLOCK_SIZE - 1)) BLOCK_SIZE (blocks + 1) (omega arith) (omega (arith, room)) in omega (arith, low)

part_few : (blocks : ℕ) (part : Option (List ℕ)) → IsInBlocks blocks part → part_blocks part ≤ blocks
part_few blocks None is = omega arith
part_few blocks (Some bytes) is = let few = begun_few (length bytes) blocks is.room in let some = is.some refl in omega (arith, few, some)

pub message_few : (m : Message ℕ) (of_control of_data : ℕ) → IsMessageInBlocks of_control of_data m → blocks_of m ≤ of_control + of_data
unfolding blocks_of
message_few m of_control of_data is = at (is_ioctl_kind m.kind) is.header
  where
    x : (Option (List ℕ)) × (Option (List ℕ))
    x = (message_parts m).1.1

    at : (ioctl : Bool) → (ioctl ≡ true → (1 ≤ of_data) × (length (bytes_in x.1) ≤ 16 + BLOCK_SIZE * (of_data - 1))) → cond ioctl (1 + begun (length (bytes_in x.1) - 16)) (part_blocks x.0 + part_blocks x.1) ≤ of_control + of_data
    at true header =
        let h = header refl in
        let few = begun_few (length (bytes_in x.1) - 16) (of_data - 1) (omega (arith, h.1)) in
        omega (arith, few, h.0)
    at false header = omega (arith, part_few of_control x.0 is.control, part_few of_data x.1 is.body)
