-- What holds of all bands above 0 where those of a set alone are gone through.
use Rattle.std.proofs.Common.{ℕ, ◌≡◌, ◌<◌, ◌≤◌, ◌+◌, Bool, false, List, length, take, sym, ap, ◌∙◌, arith}
use Rattle.std.specs.Prelude.{sum_by, slice_set, ◌||◌}
use Rattle.std.specs.List.{list_any}
use Rattle.std.proofs.lemmas.List.{take_all}
use Rattle.std.proofs.lemmas.List.Sums.{sum_by_more}
use Rattle.strm_types.specs.declared.limits.TheConstants.{BANDS}
use Rattle.strm_queue.specs.declared.bandset.BandSet.{BandSet}
use Rattle.strm_queue.specs.declared.flow.Flow.{Flow}
use Rattle.strm_queue.specs.Flows.{relieves}
use Rattle.strm_queue.specs.Kept.{flow_at, no_flow}
use Rattle.strm_queue.specs.Sets.{has, IsNext}
use Rattle.strm_queue.proofs.Flushed.{Passed, passed-more, went-more}
use Rattle.strm_queue.proofs.Passing.{passed-over, sum-over, any-over}

module _ (s : BandSet) (old : List Flow) (long : length old + 1 ≡ BANDS) (from : ℕ) where
  -- no band of the set is left
  abbrev pub AreThrough : Type 0
  AreThrough = (at : ℕ) → from ≤ at → at + 1 < BANDS → has s at ≡ false

  -- a change that leaves the bands that aren't in the set
  module _ (change : Flow → Flow) (new : List Flow) (stays : (k : ℕ) → k + 1 < BANDS → has s k ≡ false → change (flow_at k old) ≡ flow_at k old) (sofar : Passed change old new from) where
    pub next-passed : (at : ℕ) → IsNext s from at → Passed change old (slice_set new at (change (flow_at at new))) (at + 1)
    next-passed at is =
        let within = is.within in
        passed-more change old new at (omega (arith, within, long, sofar.eight))
        (passed-over change old new from at sofar is.from_on (λ k le lt. stays k (omega (arith, lt, within)) (is.none_before k le lt)))

    pub all-passed : from < BANDS → AreThrough → (at : ℕ) → at + 1 < BANDS → flow_at at new ≡ change (flow_at at old)
    all-passed within through at lt =
        (passed-over change old new from 255 sofar (omega (arith, within)) (λ k le below. stays k (omega (arith, below)) (through k le (omega (arith, below))))).before at (omega (arith, lt))

  -- a sum to which the others add nothing
  module _ (kept : Flow → ℕ) (none : (k : ℕ) → k + 1 < BANDS → has s k ≡ false → kept (flow_at k old) ≡ 0) where
    pub next-sum : (at : ℕ) → IsNext s from at → sum_by kept (take (at + 1) old) ≡ sum_by kept (take from old) + kept (flow_at at old)
    next-sum at is =
        let within = is.within in
        sum_by_more kept old at no_flow (omega (arith, within, long))
        ∙ ap (λ n. n + kept (flow_at at old)) (sum-over old from kept at is.from_on (omega (arith, within, long)) (λ k le lt. none k (omega (arith, lt, within)) (is.none_before k le lt)))

    pub all-sum : from < BANDS → AreThrough → sum_by kept (take from old) ≡ sum_by kept old
    all-sum within through =
        sym (sum-over old from kept 255 (omega (arith, within)) (omega (arith, long)) (λ k le lt. none k (omega (arith, lt)) (through k le (omega (arith, lt)))))
        ∙ ap (sum_by kept) (take_all 255 old (omega (arith, long)))

  -- writers that are let go, where for the others none waits
  module _ (none : (k : ℕ) → k + 1 < BANDS → has s k ≡ false → relieves (flow_at k old) ≡ false) where
    pub next-went : (new : List Flow) (at : ℕ) (went : Bool) → IsNext s from at → flow_at at new ≡ flow_at at old → went ≡ list_any relieves (take from old) → (went || relieves (flow_at at new)) ≡ list_any relieves (take (at + 1) old)
    next-went new at went is same sofar =
        let within = is.within in
        went-more old new at went (omega (arith, within, long)) same
        (sofar ∙ sym (any-over old from relieves at is.from_on (omega (arith, within, long)) (λ k le lt. none k (omega (arith, lt, within)) (is.none_before k le lt))))

    pub all-went : from < BANDS → AreThrough → list_any relieves (take from old) ≡ list_any relieves old
    all-went within through =
        sym (any-over old from relieves 255 (omega (arith, within)) (omega (arith, long)) (λ k le lt. none k (omega (arith, lt)) (through k le (omega (arith, lt)))))
        ∙ ap (list_any relieves) (take_all 255 old (omega (arith, long)))
