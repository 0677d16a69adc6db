-- A side's stream whose head was made as new (open(2), close(2)).
use Rattle.std.specs.Prelude.{◌≡◌}
use Rattle.strm_pair.specs.Prelude.{Openness, new_head, StoreValue, Keeps, head_in}
use Rattle.strm_pair.specs.declared.ends.StreamEnd.{StreamEnd}

-- Its head is as new, with nothing on its queue. It is open or closed as said, and all else of it stays.
pub record RenewsHead (old new : StoreValue) (x y : StreamEnd) (openness : Openness) : Type 0 where
  pub head : head_in new y.head ≡ new_head
  pub opened : y.opened ≡ openness
  pub driver : y.driver ≡ x.driver
  pub stack : y.stack ≡ x.stack
  pub keeps : Keeps old new x.head.queue y.head.queue
