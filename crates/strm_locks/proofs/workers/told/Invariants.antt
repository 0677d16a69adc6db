use Rattle.std.proofs.Common.{◌≡◌, take}
use Rattle.std.specs.Prelude.{map}
use Rattle.strm_locks.specs.Reports.{IsReportOf, total, visits_at}
use Rattle.strm_locks.proofs.workers.told.Given as goal

abbrev pub invariant-loop-hand : goal.invariant-loop-hand
invariant-loop-hand g l = (l.report ≡ total (map (λ h. h.report) (take l.hand-index l.hands))) × IsReportOf l.hand-index (visits_at l.pairs l.visits) l.report
