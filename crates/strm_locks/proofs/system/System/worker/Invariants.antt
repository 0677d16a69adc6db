use Rattle.std.proofs.Common.{◌≡◌, take}
use Rattle.std.specs.Prelude.{map}
use Rattle.strm_locks.specs.Reports.{at_rest}
use Rattle.strm_locks.proofs.system.System.worker.Given as goal

abbrev pub invariant-loop-pair : goal.invariant-loop-pair
invariant-loop-pair g l = l.posts.items ≡ map at_rest (take l.pair l.self.locks)
