-- The bytes of a node.
use Rattle.std.specs.Prelude.{ℕ}
use Rattle.std.specs.Mem.{type_size}
use Rattle.strm_raw.specs.contracts.data_nodes.DataNode.{the_row as NodeR}

abbrev pub node_size : ℕ
node_size = type_size NodeR
