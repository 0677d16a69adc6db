-- The rows of all bands above 0, of which the first ones are written.
use Rattle.std.proofs.Common.{ℕ, ◌≡◌, ◌<◌, ◌≤◌, ◌+◌, ◌-◌, List, ◌++◌, length, replicate, take, sym, ap, ◌∙◌, arith, append_assoc, length-append, length-set}
use Rattle.std.specs.Prelude.{slice_set}
use Rattle.std.proofs.lemmas.List.{set-append_left, take_all, replicate-append-replicate, length-replicate}
use Rattle.strm_types.specs.declared.limits.TheConstants.{BANDS}
use Rattle.strm_queue.specs.declared.common.Row.{Row}
use Rattle.strm_queue.specs.Rows.{all_rows, no_row, AreRows}

-- there is one for each band
pub are-all : (rows : List Row) → length rows < BANDS → AreRows (all_rows rows)
are-all rows few =
    let long = length-append rows (replicate (255 - length rows) no_row) in
    let rest = length-replicate (255 - length rows) no_row in
    record { each = omega (arith, few, long, rest) }

-- they are the same where more are written, in which nothing counts
pub all-reached : (rows : List Row) (count : ℕ) → length rows ≤ count → count < BANDS
    → all_rows (take count rows ++ replicate (count - length rows) no_row) ≡ all_rows rows
all-reached rows count le few =
    let k = count - length rows in
    let more = rows ++ replicate k no_row in
    let long = length-append rows (replicate k no_row) in
    let rest = length-replicate k no_row in
    let same : k + (255 - length more) ≡ 255 - length rows = omega (arith, le, few, long, rest) in
    ap (λ (first : List Row). all_rows (first ++ replicate k no_row)) (take_all count rows le)
    ∙ append_assoc rows (replicate k no_row) (replicate (255 - length more) no_row)
    ∙ ap (λ (behind : List Row). rows ++ behind) (replicate-append-replicate k (255 - length more) no_row)
    ∙ ap (λ n. rows ++ replicate n no_row) same

-- one of those that are written is another
pub all-set : (rows : List Row) (at : ℕ) (row : Row) → at < length rows → all_rows (slice_set rows at row) ≡ slice_set (all_rows rows) at row
all-set rows at row within =
    ap (λ n. slice_set rows at row ++ replicate (255 - n) no_row) (length-set rows at row)
    ∙ sym (set-append_left rows (replicate (255 - length rows) no_row) at row within)
