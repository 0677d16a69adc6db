use Rattle.std.proofs.Common.{◌≡◌, length}
use Rattle.std.specs.Prelude.{map, replicate}
use Rattle.strm_locks.specs.Reports.{at_rest}
use Rattle.strm_locks.proofs.system.System.crew.Given as goal

abbrev pub invariant-loop-made : goal.invariant-loop-made
invariant-loop-made g l = (map (λ h. h.worker) l.all.items ≡ replicate l.made (map at_rest l.self.locks)) × (length l.all.items ≡ l.made)
