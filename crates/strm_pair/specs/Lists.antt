-- The lists of a store on which the queues of a side stand, eight from a number on: the head's, the driver's, and two for each module with queues,
-- the lowest one's first.
use Rattle.std.specs.Prelude.{ℕ}
use Rattle.strm_pair.specs.Prelude.{Side, Master, Slave}

abbrev pub first_list : Side → ℕ
first_list Master = 0
first_list Slave = 8
