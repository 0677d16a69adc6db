-- The memory of a pair that is to be made.
use Rattle.std.specs.Prelude.{◌≡◌, ◌≤◌, Bool, [], vec_capacity}
use Rattle.strm_types.specs.declared.limits.Config.{Config}
use Rattle.strm_pair.specs.declared.pair.restore.Reserved.{Reserved}
use Rattle.strm_pair.specs.BaseTexts.{image_room}
use Rattle.strm_pair.specs.Pairs.{journal_of}
use Rattle.strm_pair.specs.Shelves.{IsFull}

-- It is what a pair of these sizes wants, with modules of a user's own some of which have queues, or none.
pub record IsReserved (queued : Bool) (limits : Config) (r : Reserved) : Type 0 where
  pub shelf : IsFull queued r.tables.shelf
  pub journal : journal_of r.journal ≡ []
  pub events : r.journal.most_entries ≡ limits.journal_events
  pub bytes : r.journal.most_bytes ≡ limits.journal_bytes
  pub base : image_room limits.mblks ≤ vec_capacity r.base
