use Rattle.std.proofs.Common.{◌≡◌}
use Rattle.std.specs.List.{AllWithin}
use Rattle.strm_raw.specs.Numbered.{no_bytes}
use Rattle.strm_raw.specs.declared.data_nodes.DataNode.{DataNode}
use Rattle.strm_raw.proofs.memory.wipe.Given as goal

abbrev pub invariant-loop-data : goal.invariant-loop-data
invariant-loop-data l = AllWithin (λ (n : DataNode). n.bytes ≡ no_bytes) l.data-items 0 l.data-index
