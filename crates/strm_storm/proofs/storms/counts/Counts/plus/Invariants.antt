use Rattle.std.proofs.Common.{◌≡◌, ◌+◌, length, take}
use Rattle.std.specs.Prelude.{sum_by}
use Rattle.strm_storm.proofs.storms.counts.Counts.plus.Given as goal

abbrev pub invariant-loop-n : goal.invariant-loop-n
invariant-loop-n l = (length l.refused ≡ 12) × (length l.more.refused ≡ 12) × (sum_by (λ n. n) l.refused ≡ sum_by (λ n. n) l.self.refused + sum_by (λ n. n) (take l.n l.more.refused))
