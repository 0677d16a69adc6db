-- The tables of bands for the queues of modules. As many pairs are made with a pair of streams as modules with queues may stand on both: those of the
-- modules that stand are with their queues, and the others on the shelf.
use Rattle.std.specs.Prelude.{ℕ, ◌≡◌, ◌≤◌, ◌+◌, ◌*◌, Bool, true, false, if◌then◌else◌, List, length, sum_by, vec_capacity}
use Rattle.strm_pair.specs.Prelude.{MODULES, Master, Slave, ModuleName, have_queues}
use Rattle.strm_laws.specs.StackCosts.{Stands, stands_on}
use Rattle.strm_pair.specs.declared.shelves.Shelf.{Shelf}
use Rattle.strm_pair.specs.declared.streams.Streams.{Streams}
use Rattle.strm_pair.specs.AnyModules.{AnyStanding}
use Rattle.strm_pair.specs.Pairs.{end_at}
use Rattle.strm_pair.specs.Shows.{one_pair}

-- how many modules with queues may stand on a side's stream, where some of a user's own have queues, or none: ldterm alone has any then
abbrev pub pairs_for : Bool → ℕ
pairs_for true = MODULES
pairs_for false = 1

-- how many pairs of tables are on a shelf, and how many have room there
abbrev pub tables_on : Shelf → ℕ
tables_on shelf = length shelf.tables.items

abbrev pub room_on : Shelf → ℕ
room_on shelf = vec_capacity shelf.tables

-- how many of modules of these names have queues, of one side and of both
abbrev pub pairs_named : List ModuleName → ℕ
pairs_named names = sum_by (λ name. if have_queues name then 1 else 0) names

abbrev pub pairs_stand : Stands → ℕ
pairs_stand all = pairs_named (stands_on Master all) + pairs_named (stands_on Slave all)

-- how many of these have queues, where they stand, and of the modules of both streams
abbrev pub pairs_among : List AnyStanding → ℕ
pairs_among xs = sum_by (λ x. one_pair x.queues) xs

abbrev pub pairs_in : Streams → ℕ
pairs_in p = pairs_among (end_at Master p).stack.modules.items + pairs_among (end_at Slave p).stack.modules.items

-- A shelf where no module stands has all.
pub record IsFull (queued : Bool) (shelf : Shelf) : Type 0 where
  pub tables : tables_on shelf ≡ 2 * pairs_for queued
  pub room : 2 * pairs_for queued ≤ room_on shelf

-- The shelf has as many pairs as may stand less those that do, and has room for all.
pub record IsStocked (queued : Bool) (shelf : Shelf) (all : Stands) : Type 0 where
  pub tables : tables_on shelf + pairs_stand all ≡ 2 * pairs_for queued
  pub room : 2 * pairs_for queued ≤ room_on shelf

-- Tables went from a shelf to modules, or back: no pair was lost, and the room for them stays.
pub record Restocks (old new : Shelf) (stood stand : ℕ) : Type 0 where
  pub tables : tables_on new + stand ≡ tables_on old + stood
  pub room : room_on old ≤ room_on new
