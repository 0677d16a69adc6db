-- How a journal is kept: entries without their bytes, and one buffer with the bytes of all.
use Rattle.std.specs.Prelude.{◌≡◌, ℕ, ◌+◌, ◌≤◌, ◌&&◌, Bool, nat_lt, nat_le, List, length, sum_by}
use Rattle.strm_pair.specs.Prelude.{Entry, PlainEntry, entry_len, room_used}

-- the buffer has the bytes of the entries, and both have their room
pub record IsStored (entries : List (Entry ℕ)) (bytes : List ℕ)
    (room_entries room_bytes most_entries most_bytes : ℕ) : Type 0 where
  pub lengths : sum_by entry_len entries ≡ length bytes
  pub few_entries : length entries ≤ most_entries
  pub few_bytes : length bytes ≤ most_bytes
  pub reserved_entries : most_entries ≤ room_entries
  pub reserved_bytes : most_bytes ≤ room_bytes

-- one more entry with so many bytes fits
abbrev pub has_room_for : List PlainEntry → ℕ → ℕ → ℕ → Bool
has_room_for entries most_entries most_bytes bytes =
    nat_lt (length entries) most_entries && nat_le (room_used entries + bytes) most_bytes
