-- What a flush of a whole queue takes (flushq(9F)).
use Rattle.std.specs.Prelude.{Bool, true, false}
use Rattle.strm_queue.specs.declared.flush.Flush.{Flush}
use Rattle.strm_queue.specs.declared.flush.Flush.TheVariants.{Data, All}

-- FLUSHALL takes messages of every kind, FLUSHDATA those of data alone
abbrev pub takes_all : Flush → Bool
takes_all Data = false
takes_all All = true
