use Rattle.strm_raw.specs.Places.{rank_at, Passes, Stops}
use Rattle.strm_raw.proofs.Placing.{Walking}
use Rattle.strm_raw.proofs.ranks.ranked.Given as goal

abbrev pub invariant-loop-left : goal.invariant-loop-left
invariant-loop-left l = Walking l.fn.course l.memory l.fn.ends (λ i. Passes l.fn.course l.fn.rank (rank_at l.memory.rows i)) (λ i. Stops l.fn.course l.fn.rank (rank_at l.memory.rows i)) l.at l.left

abbrev pub decreases-loop-left : goal.decreases-loop-left
decreases-loop-left l = l.left
