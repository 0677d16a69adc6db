-- What is told of calls, and the book of all that was told of a pair.
use Rattle.std.specs.Prelude.{◌≡◌, ◌≢◌, ℕ, zero, suc, ◌+◌, ◌-◌, ◌<◌, ◌≤◌, min, List, [], ◌∷◌, ◌++◌, length}
use Rattle.atomic_table.specs.Seated.{TableId}
use Rattle.strm_types.specs.declared.names.Dir.TheVariants.{MasterToSlave, SlaveToMaster}
use Rattle.strm_types.specs.declared.limits.Config.{Config}
use Rattle.strm_types.specs.Journal.{PlainEntry}
use Rattle.strm_laws.specs.Pair.{PairState, new_pair}
use Rattle.strm_laws.specs.State.{book}
use Rattle.strm_locks.specs.declared.end.TheConstants.{ALL_PARTS}
use Rattle.strm_locks.specs.declared.told.Each.{Each}
use Rattle.strm_locks.specs.declared.told.Told.{Told}
use Rattle.strm_locks.specs.Tallies.{bytes_read, calls_in, read_in, written_in}

abbrev pub each : ℕ → ℕ → Each
each from_master from_slave = record { from_master = from_master; from_slave = from_slave }

abbrev pub told : ℕ → ℕ → ℕ → ℕ → ℕ → Told
told calls wm ws rm rs = record { calls = calls; written = each wm ws; read = each rm rs }

abbrev pub nothing : Told
nothing = told 0 0 0 0 0

-- the five numbers, each by its place: the calls, then what was written, then what was read
abbrev pub pick : ℕ → Told → ℕ
pick zero t = t.calls
pick (suc zero) t = t.written.from_master
pick (suc (suc zero)) t = t.written.from_slave
pick (suc (suc (suc zero))) t = t.read.from_master
pick (suc (suc (suc (suc i)))) t = t.read.from_slave

abbrev pub plus : Told → Told → Told
plus a b = told (a.calls + b.calls)
    (a.written.from_master + b.written.from_master) (a.written.from_slave + b.written.from_slave)
    (a.read.from_master + b.read.from_master) (a.read.from_slave + b.read.from_slave)

abbrev pub minus : Told → Told → Told
minus a b = told (a.calls - b.calls)
    (a.written.from_master - b.written.from_master) (a.written.from_slave - b.written.from_slave)
    (a.read.from_master - b.read.from_master) (a.read.from_slave - b.read.from_slave)

-- no number is above the other's
abbrev pub IsBelow : Told → Told → Type 0
IsBelow a b = (i : ℕ) → pick i a ≤ pick i b

-- each number is one of 64 bits
abbrev pub Fits : Told → Type 0
Fits t = (i : ℕ) → pick i t < 18446744073709551616

-- what an entry of a call tells: one call, and the bytes that it wrote and read
abbrev pub tally_of : PlainEntry → Told
tally_of e = told 1 (written_in MasterToSlave e) (written_in SlaveToMaster e) (read_in MasterToSlave e) (read_in SlaveToMaster e)

-- what a pair tells of its bytes, beside a number of calls
abbrev pub told_of : ℕ → PairState → Told
told_of calls p = told calls (book MasterToSlave p.state).written (book SlaveToMaster p.state).written
    (bytes_read MasterToSlave p.fates) (bytes_read SlaveToMaster p.fates)

-- the weights of entries, added up
abbrev pub weigh : (PlainEntry → ℕ) → List PlainEntry → ℕ
weigh h [] = 0
weigh h (e ∷ es) = h e + weigh h es

-- the same entries, each as often, in any order
abbrev pub IsReordered : List PlainEntry → List PlainEntry → Type 0
IsReordered xs ys = (h : PlainEntry → ℕ) → weigh h xs ≡ weigh h ys

-- The book of a pair: what all its ends were told together, the calls that they made, and the parts that no end has.
pub record Book : Type 0 where
  pub totals : Told
  pub history : List PlainEntry
  pub left : ℕ

abbrev pub book_with : Told → List PlainEntry → ℕ → Book
book_with totals history left = record { totals = totals; history = history; left = left }

-- nobody was told anything, and no end has a part
abbrev pub closed_book : Book
closed_book = book_with nothing [] ALL_PARTS

-- the calls of a pair since it was opened: of the entries that its journal no longer has, and of those that it has
abbrev pub history_of : PairState → List PlainEntry
history_of p = calls_in (p.past ++ p.journal)

-- a pair's book
abbrev pub book_of : ℕ → PairState → ℕ → Book
book_of calls p left = book_with (told_of calls p) (history_of p) left

-- what lies under a lock: a pair and its book
pub record Kept : Type 0 where
  pub pair : PairState
  pub book : Book

abbrev pub kept : ℕ → PairState → ℕ → Kept
kept calls p left = record { pair = p; book = book_of calls p left }

-- the number of the calls, which stands still at the greatest of 64 bits
abbrev pub IsCounted : ℕ → List PlainEntry → Type 0
IsCounted calls entries = calls ≡ min (length entries) 18446744073709551615

-- a lock, as contracts see it: its table, and the sizes of the pair that it was made with
pub record LockId : Type 0 where
  pub table : TableId
  pub sizes : Config

-- the pair is as it is made
abbrev pub IsNew : PairState → Type 0
IsNew p = p ≡ new_pair p.limits

-- A pair with its numbers, as a lock keeps it: the calls are counted; while no end has a part it is as new, and else it was called.
pub record IsKept (calls left : ℕ) (p : PairState) : Type 0 where
  pub counted : IsCounted calls (history_of p)
  pub unopened : left ≡ ALL_PARTS → IsNew p
  pub opened : left ≢ ALL_PARTS → 0 < calls

-- the book gains a call: its number where there is room for it, its bytes, and its entry
pub record Adds (a : Book) (e : PlainEntry) (b : Book) : Type 0 where
  pub calls : b.totals.calls ≡ min (a.totals.calls + 1) 18446744073709551615
  pub bytes : (i : ℕ) → pick (suc i) b.totals ≡ pick (suc i) a.totals + pick (suc i) (tally_of e)
  pub history : b.history ≡ a.history ++ e ∷ []
  pub left : b.left ≡ a.left
