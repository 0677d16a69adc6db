-- What a message has for its users: its control bytes and its data bytes (STREAMS Programming Guide, "Messages").
use Rattle.std.specs.Prelude.{ℕ, List, [], ◌∷◌, filter, take_while, Option, None, Some, length}
use Rattle.std.specs.List.{flat_map}
use Rattle.strm_blocks.specs.Blocks.{Block}
use Rattle.strm_types.specs.Kinds.{is_control_kind, is_body_kind}

-- the bytes of all blocks of a chain, one behind the other
abbrev pub bytes_of : List Block → List ℕ
bytes_of chain = flat_map (λ b. b.bytes) chain

-- the control part of a message: its M_PROTO and M_PCPROTO blocks at the front
abbrev pub control_blocks : List Block → List Block
control_blocks chain = take_while (λ b. is_control_kind b.kind) chain

-- the data part of a message: its M_DATA blocks
abbrev pub data_blocks : List Block → List Block
data_blocks chain = filter (λ b. is_body_kind b.kind) chain

abbrev pub control_bytes : List Block → List ℕ
control_bytes chain = bytes_of (control_blocks chain)

abbrev pub data_bytes : List Block → List ℕ
data_bytes chain = bytes_of (data_blocks chain)

-- how many bytes a part has, nothing where it has no block
abbrev pub length_of_part : List Block → Option ℕ
length_of_part [] = None
length_of_part (b ∷ blocks) = Some (length (bytes_of (b ∷ blocks)))
