-- The fields of a raw store, as its model sees them.
use Rattle.strm_blocks.specs.Blocks.{StoreValue}
use Rattle.strm_raw.specs.Raw as raw
use Rattle.strm_raw.specs.Lists as lists
use Rattle.strm_raw.specs.Wiped.{AreWiped}
use Rattle.strm_raw.specs.declared.raw.RawStore.TheInside.{Inside}

abbrev pub value_of : Inside → StoreValue
value_of t = raw.value_of t.memory t.ledger.roster

pub record IsRawStore (t : Inside) : Type 0 where
  pub raw : raw.IsRaw t.memory t.free_msg t.free_data t.spare_m t.spare_d t.ledger.roster
  pub wiped : AreWiped t.memory.datas
  pub listed : lists.AreListed t.memory t.ends t.ledger.roster
