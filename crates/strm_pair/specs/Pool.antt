-- What the numbers of free blocks tell of a pair's messages.
use Rattle.std.specs.Prelude.{ℕ, ◌≡◌, ◌≤◌, ◌+◌}
use Rattle.strm_pair.specs.Prelude.{Config, Free}

-- Each message has a message block at least, and where no queue holds a message all blocks of both kinds are free.
pub record IsPoolOf (messages : ℕ) (limits : Config) (free : Free) : Type 0 where
  pub in_use : messages + free.mblks ≤ limits.mblks
  pub all_free : messages ≡ 0 → free ≡ record { mblks = limits.mblks; dblks = limits.dblks }
