-- What stays of a queue.
use Rattle.std.specs.Prelude.{◌≡◌}
use Rattle.strm_queue.specs.declared.queue.Queue.{Queue}

-- nothing but the counts of a queue changed
pub record OnlyCounts (old new : Queue) : Type 0 where
  pub list : new.list ≡ old.list
  pub want_read : new.want_read ≡ old.want_read
  pub no_enable : new.no_enable ≡ old.no_enable
