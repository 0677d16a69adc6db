-- What a sink was given, and how it takes more.
use Rattle.std.specs.Prelude.{ℕ, ◌+◌, ◌-◌, List, ◌++◌, length, take, drop, min}
use Rattle.std.specs.Borrow.{GName, MutBor}
use Rattle.strm_image.specs.declared.sink.Sink.{Sink}

-- a sink: the buffer that it was lent, how many bytes of it are text, and how many it was given, as far as 64 bits count
abbrev pub Given : Type 0
Given = Sink

abbrev pub most_counted : ℕ
most_counted = 18446744073709551615

-- the reference that it was lent, which whoever lent it knows again by its name
abbrev pub sink_name : Given → GName
sink_name g = g.bytes.ghost_name

-- the bytes of the buffer
abbrev pub lent_in : Given → List ℕ
lent_in g = g.bytes.now

-- the place of what comes next
abbrev pub place_in : Given → ℕ
place_in g = g.filled

abbrev pub count_in : Given → ℕ
count_in g = g.count

abbrev pub nothing_given : MutBor (List ℕ) → Given
nothing_given lent = record { bytes = lent; filled = 0; count = 0 }

-- what is lent with these bytes in place of as many behind the first ones, as far as there is room
abbrev pub replaced : ℕ → List ℕ → List ℕ → List ℕ
replaced at bytes lent = take at lent ++ (take (length lent - at) bytes ++ drop (at + length bytes) lent)

-- a buffer with a text at its front, as far as there is room, behind which it stays
abbrev pub front_over : List ℕ → List ℕ → List ℕ
front_over text before = take (length before) text ++ drop (length text) before

abbrev pub over : ℕ → List ℕ → MutBor (List ℕ) → MutBor (List ℕ)
over at bytes lent = record lent { now = replaced at bytes lent.now }

-- Of bytes behind those that are kept it keeps as many as it has room for.
unfoldable pub put : List ℕ → Given → Given
put bytes g = record {
  bytes = over g.filled bytes g.bytes;
  filled = g.filled + min (length bytes) (length g.bytes.now - g.filled);
  count = g.count + min (length bytes) (most_counted - g.count);
}

unfoldable pub patch : ℕ → List ℕ → Given → Given
patch at bytes g = record g { bytes = over at bytes g.bytes }
