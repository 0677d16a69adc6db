use Rattle.std.proofs.Common.{length}
use Rattle.strm_locks.specs.Reports.{AreAt, Tours}
use Rattle.strm_locks.proofs.Reports.{Counts}
use Rattle.strm_locks.proofs.system.System.tour.Given as goal

abbrev pub invariant-loop-visit : goal.invariant-loop-visit
invariant-loop-visit g l = AreAt l.self.locks l.worker × Tours (length l.self.locks) l.shift.first l.visit l.fn.worker l.report l.worker × Counts l.visit l.report
