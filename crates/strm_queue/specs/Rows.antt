-- How the flow control of the bands above 0 is kept: what they have in common, and a row for each.
use Rattle.std.specs.Prelude.{ℕ, suc, ◌≡◌, ◌+◌, ◌-◌, ◌++◌, nat_le, if◌then◌else◌, List, [], ◌∷◌, length, replicate, slice_index_or}
use Rattle.strm_types.specs.declared.limits.TheConstants.{BANDS}
use Rattle.strm_queue.specs.declared.flow.Flow.{Flow}
use Rattle.strm_queue.specs.declared.common.Row.{Row}
use Rattle.strm_queue.specs.declared.common.Common.{Common}
use Rattle.strm_queue.specs.Sets.{has}

-- the row of a band that there isn't
abbrev pub no_row : Row
no_row = record { data_bytes = 0; other_bytes = 0; high = 0; low = 0 }

-- the marks of a band: its own where it has some, or else those of all
abbrev pub high_of : Common → ℕ → Row → ℕ
high_of c at row = if has c.marked at then row.high else c.marks.high

abbrev pub low_of : Common → ℕ → Row → ℕ
low_of c at row = if has c.marked at then row.low else c.marks.low

-- what counts in a band: what its row says, where bytes stand
abbrev pub counts_of : Common → ℕ → Row → Row
counts_of c at row = if has c.filled at then row else no_row

-- the flow control of a band, which is full from its high-water mark on
abbrev pub row_flow : Common → ℕ → Row → Flow
row_flow c at row = record {
  data_bytes = (counts_of c at row).data_bytes;
  other_bytes = (counts_of c at row).other_bytes;
  high = high_of c at row;
  low = low_of c at row;
  full = nat_le (high_of c at row) ((counts_of c at row).data_bytes + (counts_of c at row).other_bytes);
  want_write = has c.waiting at;
}

-- the flow control of the bands from one up
abbrev pub flows_from : Common → ℕ → List Row → List Flow
flows_from c at [] = []
flows_from c at (row ∷ rows) = row_flow c at row ∷ flows_from c (suc at) rows

abbrev pub row_at : ℕ → List Row → Row
row_at at rows = slice_index_or rows at no_row

-- the rows of all bands above 0, where some of them are written: in the others nothing counts
abbrev pub all_rows : List Row → List Row
all_rows rows = rows ++ replicate (255 - length rows) no_row

-- there is a row for each band above 0
pub record AreRows (rows : List Row) : Type 0 where
  pub each : length rows + 1 ≡ BANDS
