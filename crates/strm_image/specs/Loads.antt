-- How many blocks messages take, and how many bytes of them the ledgers count.
use Rattle.std.specs.Prelude.{ℕ, ◌+◌, ◌-◌, ◌/◌, if◌then◌else◌, List, length, slice_set, sum_by, max, Option, None, Some}
use Rattle.strm_image.specs.Prelude.{BLOCK_SIZE, Message, cells_of, Flow}
use Rattle.strm_image.specs.declared.versions.Load.{Load}
use Rattle.strm_image.specs.Messages.{Parts, bytes_in, is_ioctl_kind, message_parts}

-- a block for each begun 256 bytes
abbrev pub begun : ℕ → ℕ
begun bytes = (bytes + (BLOCK_SIZE - 1)) / BLOCK_SIZE

-- those of a part, at least one where it is there
abbrev pub part_blocks : Option (List ℕ) → ℕ
part_blocks None = 0
part_blocks (Some bytes) = max (begun (length bytes)) 1

-- The header of an ioctl has a block of its own, and what stands behind it has none where it is empty.
abbrev pub blocks_in : Parts → ℕ
blocks_in (k, (band, (control, body))) =
    if is_ioctl_kind k then 1 + begun (length (bytes_in body) - 16) else part_blocks control + part_blocks body

-- how many blocks of each kind a message takes, and how many of its bytes a ledger counts: those of M_DATA, M_PROTO
-- and M_PCPROTO
unfoldable pub blocks_of : Message ℕ → ℕ
blocks_of m = blocks_in (message_parts m)

unfoldable pub counted_of : Message ℕ → ℕ
counted_of m = length (cells_of m)

abbrev pub no_load : Load
no_load = record { blocks = 0; cells = 0 }

abbrev pub add_message : Message ℕ → Load → Load
add_message m load = record { blocks = load.blocks + blocks_of m; cells = load.cells + counted_of m }

-- those of all messages of a queue
abbrev pub load_of : List (Message ℕ) → Load
load_of ms = record { blocks = sum_by blocks_of ms; cells = sum_by counted_of ms }

-- the flow control of a listed band, where it is listed
abbrev pub set_band : ℕ × Flow → List Flow → List Flow
set_band e fs = slice_set fs e.0 e.1
