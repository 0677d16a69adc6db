-- A change of each band in turn, where bands that stay as they are are passed over.
use Rattle.std.proofs.Common.{ℕ, zero, suc, ◌≡◌, ◌<◌, ◌≤◌, ◌+◌, ◌-◌, ◌*◌, Bool, true, false, List, length, take, refl, sym, ap, ◌∙◌, arith}
use Rattle.std.specs.Prelude.{nat_lt, sum_by, ◌||◌, nat_le}
use Rattle.std.specs.List.{list_any}
use Rattle.std.proofs.lemmas.Bool.Decides.{nat_tests}
use Rattle.std.proofs.lemmas.List.Sums.{sum_by_more}
use Rattle.std.proofs.lemmas.List.Folds.{list_any_more}
use Rattle.strm_queue.specs.declared.flow.Flow.{Flow}
use Rattle.strm_queue.specs.Flows.{count_in, IsMarked, flushed_of, kept_bytes}
use Rattle.strm_queue.specs.Kept.{flow_at, no_flow, FewBytes}
use Rattle.strm_queue.proofs.Flushed.{Passed}

pub passed-over : (change : Flow → Flow) (old new : List Flow) (from to : ℕ) → Passed change old new from → from ≤ to
    → ((k : ℕ) → from ≤ k → k < to → change (flow_at k old) ≡ flow_at k old) → Passed change old new to
passed-over change old new from to sofar le stays = record {
  eight = sofar.eight;
  before = λ k lt. at k lt (nat_lt k from) refl;
  behind = λ k past. sofar.behind k (omega (arith, le, past));
}
  where
    at : (k : ℕ) → k < to → (b : Bool) → nat_lt k from ≡ b → flow_at k new ≡ change (flow_at k old)
    at k lt true early = sofar.before k (let lt : k < from = grind (arith, nat_tests) in lt)
    at k lt false late =
        let past : from ≤ k = grind (arith, nat_tests) in
        sofar.behind k past ∙ sym (stays k past lt)

-- a band where nothing stands is the same after a flush
emptied-same : (f : Flow) (d o : ℕ) (b : Bool) → f.data_bytes ≡ d → f.other_bytes ≡ o → f.full ≡ b → record f { data_bytes = d; other_bytes = o; full = b } ≡ f
emptied-same f d o b ed eo eb = rw (← ed, ← eo, ← eb) refl

pub flushed-none : (all : Bool) (f : Flow) → count_in f ≡ 0 → IsMarked f → flushed_of all f ≡ f
flushed-none true f none marked =
    let d : f.data_bytes ≡ 0 = omega (arith, none) in
    let o : f.other_bytes ≡ 0 = omega (arith, none) in
    emptied-same f 0 0 (nat_le f.high 0) d o (marked ∙ ap (nat_le f.high) none)
flushed-none false f none marked =
    let d : f.data_bytes ≡ 0 = omega (arith, none) in
    emptied-same f 0 f.other_bytes (nat_le f.high (0 + f.other_bytes)) d refl (marked ∙ ap (λ n. nat_le f.high (n + f.other_bytes)) d)

-- a sum over bands, and whether one passes a test, where some have nothing to add
module _ (flows : List Flow) (from : ℕ) where
  sum-past : (kept : Flow → ℕ) (n : ℕ) → from + n ≤ length flows → ((k : ℕ) → from ≤ k → k < from + n → kept (flow_at k flows) ≡ 0) → sum_by kept (take (from + n) flows) ≡ sum_by kept (take from flows)
  sum-past kept zero within none = ap (λ k. sum_by kept (take k flows)) (let e : from + 0 ≡ from = omega arith in e)
  sum-past kept (suc n) within none =
      let one : sum_by kept (take (from + n + 1) flows) ≡ sum_by kept (take (from + n) flows) + kept (flow_at (from + n) flows) = sum_by_more kept flows (from + n) no_flow (omega (arith, within)) in
      let zero_here = none (from + n) (omega arith) (omega arith) in
      let rest = sum-past kept n (omega (arith, within)) (λ k le lt. none k le (omega (arith, lt))) in
      ap (λ k. sum_by kept (take k flows)) (let e : from + suc n ≡ from + n + 1 = omega arith in e) ∙ omega (arith, one, zero_here, rest)

  pub sum-over : (kept : Flow → ℕ) (to : ℕ) → from ≤ to → to ≤ length flows → ((k : ℕ) → from ≤ k → k < to → kept (flow_at k flows) ≡ 0)
      → sum_by kept (take to flows) ≡ sum_by kept (take from flows)
  sum-over kept to le within none =
      let is : from + (to - from) ≡ to = omega (arith, le) in
      ap (λ k. sum_by kept (take k flows)) (sym is) ∙ sum-past kept (to - from) (omega (arith, is, within)) (λ k first lt. none k first (omega (arith, is, lt)))

  any-past : (test : Flow → Bool) (n : ℕ) → from + n ≤ length flows → ((k : ℕ) → from ≤ k → k < from + n → test (flow_at k flows) ≡ false) → list_any test (take (from + n) flows) ≡ list_any test (take from flows)
  any-past test zero within none = ap (λ k. list_any test (take k flows)) (let e : from + 0 ≡ from = omega arith in e)
  any-past test (suc n) within none =
      ap (λ k. list_any test (take k flows)) (let e : from + suc n ≡ from + n + 1 = omega arith in e)
      ∙ list_any_more test flows (from + n) no_flow (omega (arith, within))
      ∙ ap (λ b. list_any test (take (from + n) flows) || b) (none (from + n) (omega arith) (omega arith))
      ∙ or-none (list_any test (take (from + n) flows))
      ∙ any-past test n (omega (arith, within)) (λ k le lt. none k le (omega (arith, lt)))
    where
      or-none : (b : Bool) → (b || false) ≡ b
      or-none true = refl
      or-none false = refl

  pub any-over : (test : Flow → Bool) (to : ℕ) → from ≤ to → to ≤ length flows → ((k : ℕ) → from ≤ k → k < to → test (flow_at k flows) ≡ false)
      → list_any test (take to flows) ≡ list_any test (take from flows)
  any-over test to le within none =
      let is : from + (to - from) ≡ to = omega (arith, le) in
      ap (λ k. list_any test (take k flows)) (sym is) ∙ any-past test (to - from) (omega (arith, is, within)) (λ k first lt. none k first (omega (arith, is, lt)))

-- the sum of small numbers is small
pub sum-small : (kept : Flow → ℕ) (flows : List Flow) (k : ℕ) → k ≤ length flows → ((f : Flow) → kept f ≤ count_in f) → FewBytes flows → sum_by kept (take k flows) ≤ k * 16777216
sum-small kept flows zero within less few = omega arith
sum-small kept flows (suc k) within less few =
    let one : sum_by kept (take (k + 1) flows) ≡ sum_by kept (take k flows) + kept (flow_at k flows) = sum_by_more kept flows k no_flow (omega (arith, within)) in
    let is : sum_by kept (take (suc k) flows) ≡ sum_by kept (take (k + 1) flows) = ap (λ j. sum_by kept (take j flows)) (let e : suc k ≡ k + 1 = omega arith in e) in
    omega (arith, one, is, less (flow_at k flows), few k, sum-small kept flows k (omega (arith, within)) less few)

pub kept-less : (data_alone : Bool) (f : Flow) → kept_bytes data_alone f ≤ count_in f
kept-less true f = omega arith
kept-less false f = omega arith

pub kept-none : (data_alone : Bool) (f : Flow) → count_in f ≡ 0 → kept_bytes data_alone f ≡ 0
kept-none data_alone f none = omega (arith, none, kept-less data_alone f)
