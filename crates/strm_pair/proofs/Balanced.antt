-- The numbers of a pair's ledger agree.
use Rattle.strm_pair.proofs.Prelude.{◌≡◌, ◌<◌, ◌+◌, arith, sum_of}
use Rattle.strm_pair.specs.Prelude.{Dir, Fates, Config, inline, queued, book, StoreValue, Behaviour}
use Rattle.std.proofs.Common.{◌^◌}
use Rattle.strm_types.specs.Rules.{fates_of}
use Rattle.strm_pair.specs.declared.journal.Journal.{Journal}
use Rattle.strm_pair.specs.declared.streams.Streams.{Streams}
use Rattle.strm_pair.specs.Pairs.{state_in}
use Rattle.strm_pair.specs.PairViews.{IsKept}
use Rattle.strm_pair.specs.Starts.{Start}
use Rattle.strm_pair.proofs.Steps.{kept-base}

module _ (K : Behaviour) (s : StoreValue) (p : Streams) (j : Journal) (b : Start) (limits : Config) (fates : Fates) (kept : IsKept K s p j b limits fates) (dir : Dir) where
  -- what was written and made is what stands there and has gone
  pub balance : let st = state_in s p in (book dir st).written + (book dir st).made ≡ queued dir st + (inline dir st + sum_of (fates_of dir fates))
  balance = ((kept-base K s p j b limits fates kept).balanced dir).agree

  -- so what doesn't stand on queues is below 2^64, as all is
  pub elsewhere-few : inline dir (state_in s p) + sum_of (fates_of dir fates) < 2 ^ 64
  elsewhere-few = let all = balance in let written = kept.few.written dir in let made = kept.few.made dir in omega (arith, all, written, made)
