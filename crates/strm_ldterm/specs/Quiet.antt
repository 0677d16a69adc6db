-- The keys that send nothing.
use Rattle.std.specs.Prelude.{Bool, true, false}
use Rattle.strm_ldterm.specs.Prelude.{Key, Start, Ignored, Erase, Kill, Werase, Reprint, Lnext, Ordinary}

-- Whether a key sends nothing: START (what it starts has begun before), a carriage return that is ignored, keys that edit the line,
-- LNEXT, and an ordinary byte.
abbrev pub is_quiet : Key → Bool
is_quiet Start = true
is_quiet Ignored = true
is_quiet Erase = true
is_quiet Kill = true
is_quiet Werase = true
is_quiet Reprint = true
is_quiet Lnext = true
is_quiet Ordinary = true
is_quiet _ = false

-- Whether a key is dropped, by a rule of its own.
abbrev pub is_dropped : Key → Bool
is_dropped Start = true
is_dropped Ignored = true
is_dropped Reprint = true
is_dropped Lnext = true
is_dropped _ = false
