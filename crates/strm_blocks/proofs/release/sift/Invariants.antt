use Rattle.std.proofs.Common.{◌≡◌, ◌<◌, ◌+◌, ◌^◌, ◌++◌, not, length, filter}
use Rattle.strm_blocks.specs.Message.{flushes_message}
use Rattle.strm_blocks.proofs.release.sift.Given as goal

abbrev pub invariant-each : goal.invariant-each
invariant-each l = record {
  kept : l.list ++ filter (λ m. not (flushes_message l.what m)) l.rest ≡ filter (λ m. not (flushes_message l.what m)) l.fn.list;
  taken : l.taken ++ filter (λ m. flushes_message l.what m) l.rest ≡ filter (λ m. flushes_message l.what m) l.fn.list;
  count : length l.list + length l.taken + length l.rest ≡ length l.fn.list;
  few : length l.fn.list < 2 ^ 63;
}

abbrev pub decreases-each : goal.decreases-each
decreases-each l = length l.rest
