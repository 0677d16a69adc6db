-- What a read takes from a stream head (read(2), streamio(7I): byte-stream mode, RNORM).
use Rattle.std.specs.Prelude.{ℕ, ◌==◌, ◌||◌, ◌-◌, nat_lt, if◌then◌else◌, List, [], ◌∷◌, ◌++◌, take, drop, None, Some}
use Rattle.strm_types.specs.Message.{Message, cells_of, size_of}
use Rattle.strm_types.specs.Queue.{put_back}

-- the cells that a read gives, and the messages that it leaves
pub record Taken (C : Type 0) : Type 0 where
  pub given : List C
  pub left : List (Message C)

module _ {C : Type 0} where
  -- what is left of a message whose first cells were read
  abbrev pub rest_of : ℕ → Message C → Message C
  rest_of n m = record m { control = None; body = Some (drop n (cells_of m)) }

  -- Up to n cells from the first messages on: whole messages while they fit, then the front of the next, whose rest is
  -- put back. A zero-length message ends it and stays.
  abbrev pub gathered : ℕ → List (Message C) → Taken C
  gathered n [] = record { given = []; left = [] }
  gathered n (m ∷ q) =
      if n == 0 || size_of m == 0 then record { given = []; left = m ∷ q }
      else (if nat_lt n (size_of m)
      then record { given = take n (cells_of m); left = put_back (rest_of n m) q }
      else (let more = gathered (n - size_of m) q in record { given = cells_of m ++ more.given; left = more.left }))

  -- A read of up to n cells. Nothing is taken for none. A zero-length message that stands first is removed, and no cell
  -- is given.
  abbrev pub head_read : ℕ → List (Message C) → Taken C
  head_read n [] = record { given = []; left = [] }
  head_read n (m ∷ q) =
      if n == 0 then record { given = []; left = m ∷ q }
      else (if size_of m == 0 then record { given = []; left = q } else gathered n (m ∷ q))
