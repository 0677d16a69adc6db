-- What a call changes of one block.
use Rattle.std.specs.Prelude.{ℕ, ◌+◌, ◌-◌, min}
use Rattle.strm_blocks.specs.Blocks.{Block, trimmed_head, trimmed_tail, of_kind}
use Rattle.strm_raw.specs.declared.changes.Change.{Change}
use Rattle.strm_raw.specs.declared.changes.Change.TheVariants.{Head, Tail, Kind, Band}
use Rattle.strm_raw.specs.declared.msg_nodes.MsgNode.{MsgNode}

abbrev pub changed_by : Change → Block → Block
changed_by (Head n) b = trimmed_head n b
changed_by (Tail n) b = trimmed_tail n b
changed_by (Kind kind) b = of_kind kind b
changed_by (Band band) b = record b { band = band }

-- the node of a block that shows so many bytes
abbrev pub node_by : Change → ℕ → MsgNode → MsgNode
node_by (Head n) shown node = record node { start = node.start + min n shown }
node_by (Tail n) shown node = record node { end = node.end - min n shown }
node_by (Kind kind) shown node = record node { kind = kind }
node_by (Band band) shown node = record node { band = band }
