-- The rows of bands as their flow control.
use Rattle.std.proofs.Common.{ℕ, zero, suc, ◌≡◌, cond, ◌≢◌, ◌<◌, ◌≤◌, ◌+◌, ◌^◌, Bool, false, List, [], ◌∷◌, length, refl, sym, ap, subst, ◌∙◌, arith, length-set}
use Rattle.std.specs.Prelude.{slice_set, map}
use Rattle.strm_types.specs.declared.limits.TheConstants.{BANDS}
use Rattle.strm_queue.specs.declared.flow.Flow.{Flow}
use Rattle.strm_queue.specs.declared.common.Row.{Row}
use Rattle.strm_queue.specs.declared.common.Common.{Common}
use Rattle.strm_queue.specs.Flows.{count_in, IsMarked}
use Rattle.strm_queue.specs.Kept.{flow_at, FewBytes}
use Rattle.strm_queue.specs.Sets.{has}
use Rattle.strm_queue.specs.Rows.{row_flow, flows_from, row_at, no_row, AreRows}

pub flows-long : (c : Common) (at : ℕ) (rows : List Row) → length (flows_from c at rows) ≡ length rows
flows-long c at [] = refl
flows-long c at (row ∷ rows) = omega (arith, flows-long c (suc at) rows)

-- the flow control of a band is that of its row
pub flow-row : (c : Common) (from at : ℕ) (rows : List Row) → at < length rows → flow_at at (flows_from c from rows) ≡ row_flow c (from + at) (row_at at rows)
flow-row c from at [] within = absurd (omega arith)
flow-row c from zero (row ∷ rows) within = ap (λ k. row_flow c k row) (let e : from ≡ from + 0 = omega arith in e)
flow-row c from (suc at) (row ∷ rows) within =
    flow-row c (suc from) at rows (omega arith) ∙ ap (λ k. row_flow c k (row_at at rows)) (let e : suc from + at ≡ from + suc at = omega arith in e)

pub first-row : (c : Common) (at : ℕ) (rows : List Row) → at < length rows → flow_at at (flows_from c 0 rows) ≡ row_flow c at (row_at at rows)
first-row c at rows within = flow-row c 0 at rows within ∙ ap (λ k. row_flow c k (row_at at rows)) (let e : 0 + at ≡ at = omega arith in e)

-- no row tells another flow control, by what is common to all
flows-same : (c c' : Common) (from : ℕ) (rows : List Row) → ((k : ℕ) (row : Row) → from ≤ k → row_flow c' k row ≡ row_flow c k row) → flows_from c' from rows ≡ flows_from c from rows
flows-same c c' from [] same = refl
flows-same c c' from (row ∷ rows) same =
    ap (λ f. f ∷ flows_from c' (suc from) rows) (same from row (omega arith))
    ∙ ap (λ fs. row_flow c from row ∷ fs) (flows-same c c' (suc from) rows (λ k row le. same k row (omega (arith, le))))

-- one band has another row
pub flows-set : (c c' : Common) (from at : ℕ) (new : Row) (flow : Flow) (rows : List Row) → at < length rows → row_flow c' (from + at) new ≡ flow
    → ((k : ℕ) (row : Row) → k ≢ from + at → row_flow c' k row ≡ row_flow c k row) → flows_from c' from (slice_set rows at new) ≡ slice_set (flows_from c from rows) at flow
flows-set c c' from at new flow [] within here others = absurd (omega arith)
flows-set c c' from zero new flow (row ∷ rows) within here others =
    ap (λ f. f ∷ flows_from c' (suc from) rows) (ap (λ k. row_flow c' k new) (let e : from ≡ from + 0 = omega arith in e) ∙ here)
    ∙ ap (λ fs. flow ∷ fs) (flows-same c c' (suc from) rows (λ k row le. others k row (λ e. omega (arith, e, le))))
flows-set c c' from (suc at) new flow (row ∷ rows) within here others =
    ap (λ f. f ∷ flows_from c' (suc from) (slice_set rows at new)) (others from row (λ e. omega (arith, e)))
    ∙ ap (λ fs. row_flow c from row ∷ fs)
    (flows-set c c' (suc from) at new flow rows (omega arith) (ap (λ k. row_flow c' k new) (let e : suc from + at ≡ from + suc at = omega arith in e) ∙ here) (λ k row apart. others k row (λ e. apart (omega (arith, e)))))

pub first-set : (c c' : Common) (at : ℕ) (new : Row) (flow : Flow) (rows : List Row) → at < length rows → row_flow c' at new ≡ flow
    → ((k : ℕ) (row : Row) → k ≢ at → row_flow c' k row ≡ row_flow c k row) → flows_from c' 0 (slice_set rows at new) ≡ slice_set (flows_from c 0 rows) at flow
first-set c c' at new flow rows within here others =
    let e : 0 + at ≡ at = omega arith in
    flows-set c c' 0 at new flow rows within (ap (λ k. row_flow c' k new) e ∙ here) (λ k row apart. others k row (λ is. apart (is ∙ sym e)))

-- each band has another flow control
pub flows-each : (change : Flow → Flow) (c c' : Common) (from : ℕ) (rows : List Row) → ((k : ℕ) (row : Row) → row_flow c' k row ≡ change (row_flow c k row)) → flows_from c' from rows ≡ map change (flows_from c from rows)
flows-each change c c' from [] each = refl
flows-each change c c' from (row ∷ rows) each =
    ap (λ f. f ∷ flows_from c' (suc from) rows) (each from row)
    ∙ ap (λ fs. change (row_flow c from row) ∷ fs) (flows-each change c c' (suc from) rows each)

-- there are rows as before
pub rows-set : (at : ℕ) (new : Row) (rows : List Row) → AreRows rows → AreRows (slice_set rows at new)
rows-set at new rows are = record { each = ap (λ n. n + 1) (length-set rows at new) ∙ are.each }

-- what the rows say of the flow control of bands
module _ (c : Common) (rows : List Row) (are : AreRows rows) (flows : List Flow) (is : flows_from c 0 rows ≡ flows) where
  pub row-at : (at : ℕ) → at + 1 < BANDS → flow_at at flows ≡ row_flow c at (row_at at rows)
  row-at at lt = ap (flow_at at) (sym is) ∙ first-row c at rows (omega (arith, lt, are.each))

  pub row-empty : (at : ℕ) → at + 1 < BANDS → has c.filled at ≡ false → count_in (flow_at at flows) ≡ 0
  row-empty at lt none = ap count_in (row-at at lt) ∙ ap (λ (b : Bool). (cond b (row_at at rows) no_row).data_bytes + (cond b (row_at at rows) no_row).other_bytes) none

  pub row-marked : (at : ℕ) → at + 1 < BANDS → IsMarked (flow_at at flows)
  row-marked at lt = subst IsMarked (sym (row-at at lt)) refl

  pub row-waits : (at : ℕ) → at + 1 < BANDS → has c.waiting at ≡ (flow_at at flows).want_write
  row-waits at lt = sym (ap (λ (f : Flow). f.want_write) (row-at at lt))

  pub row-few : (at : ℕ) → at + 1 < BANDS → FewBytes flows → count_in (row_flow c at (row_at at rows)) < 2 ^ 32
  row-few at lt few = let same = ap count_in (row-at at lt) in omega (arith, same, few at)

  pub rows-long : length flows + 1 ≡ BANDS
  rows-long = ap (λ (fs : List Flow). length fs + 1) (sym is) ∙ ap (λ n. n + 1) (flows-long c 0 rows) ∙ are.each
