-- How much more may be made before a book is full, in units of what a packet makes at most: the bytes of a message, of which there are no more than
-- 65536 blocks hold, and the number of its kind (pckt(7M)).
use Rattle.std.specs.Prelude.{ℕ, ◌-◌, ◌/◌, min}
use Rattle.strm_laws.specs.Prelude.{MasterToSlave, SlaveToMaster, Spot, Message, shape_of, name_does}
use Rattle.strm_laws.specs.Stacked.{Standing, module_name}
use Rattle.strm_laws.specs.State.{State, book}

abbrev pub packet_most : ℕ
packet_most = 16777217

-- where so many were made
unfoldable pub spare_behind : ℕ → ℕ
spare_behind made = (18446744073709551615 - made) / packet_most

abbrev pub spare : {C : Type 0} → State C → ℕ
spare s = min (spare_behind (book MasterToSlave s).made) (spare_behind (book SlaveToMaster s).made)

-- how many of them a put at a module makes at most, by its table
abbrev pub module_packs : {C : Type 0} → Spot → Message C → Standing C → ℕ
module_packs here m p = (name_does (module_name p) here.way (shape_of m)).makes
