-- What is left of the bytes of messages that are gone: nothing.
use Rattle.std.specs.Prelude.{ℕ, ◌≡◌, List, All}
use Rattle.strm_raw.specs.Numbered.{DataRow, data_at, no_bytes}
use Rattle.strm_raw.specs.declared.data_nodes.DataNode.{DataNode}

-- zeros stand in a data block that no message block names, from its first byte to its last
abbrev pub AreWiped : List DataRow → Type 0
AreWiped datas = (d : ℕ) → (data_at d datas).references ≡ 0 → (data_at d datas).bytes ≡ no_bytes

-- zeros stand in all data blocks
abbrev pub AreBlank : List DataNode → Type 0
AreBlank nodes = All (λ n. n.bytes ≡ no_bytes) nodes
