-- A system of pairs, and the ends that are of it.
use Rattle.std.specs.Prelude.{◌≡◌, ℕ, List, Option, None, Some, slice_get}
use Rattle.strm_minors.specs.Openers.{MinorSpace}
use Rattle.strm_locks.specs.Books.{LockId}
use Rattle.strm_locks.specs.Ends.{Share, joined_end}

-- a system: the lock of each pair, by its number, and the minors
pub record Plan : Type 0 where
  pub locks : List LockId
  pub minors : MinorSpace

-- an end of a system's pair, with the number of the pair, and the minor by which the pair was opened, where this end has it
pub record Numbered : Type 0 where
  pub pair : ℕ
  pub end : Share
  pub minor : Option ℕ

abbrev pub numbered : ℕ → Option ℕ → Share → Numbered
numbered pair minor end = record { pair = pair; end = end; minor = minor }

-- the first minor of two, if any
abbrev pub either_minor : Option ℕ → Option ℕ → Option ℕ
either_minor None minor = minor
either_minor (Some n) minor = Some n

-- one end of two of a pair: it calls as the first does, and has the minor if one of them has it
abbrev pub joined_ends : Numbered → Numbered → Numbered
joined_ends a b = numbered a.pair (either_minor a.minor b.minor) (joined_end a.end b.end)

-- the end is of the pair that has its number in this system
abbrev pub IsOne : Plan → Numbered → Type 0
IsOne system e = slice_get system.locks e.pair ≡ Some e.end.lock
