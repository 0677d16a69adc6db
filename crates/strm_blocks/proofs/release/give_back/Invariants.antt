use Rattle.std.proofs.Common.{ℕ, ◌≡◌, ◌≤◌, ◌+◌, length, sum_by, slice_index_or}
use Rattle.strm_blocks.specs.Message.{naming, named, block_count}
use Rattle.strm_blocks.proofs.release.give_back.Given as goal

abbrev pub invariant-each : goal.invariant-each
invariant-each l = record {
  enough : (d : ℕ) → sum_by (naming d) l.taken ≤ slice_index_or l.pool.references d 0;
  messages : length l.idle + length l.taken ≡ length l.fn.idle + length l.fn.taken;
  names : (i : ℕ) → sum_by (named i) l.idle + sum_by (named i) l.taken ≡ sum_by (named i) l.fn.idle + sum_by (named i) l.fn.taken;
  blocks : length l.spare + sum_by block_count l.taken ≡ length l.fn.spare + sum_by block_count l.fn.taken;
  released : (d : ℕ) → slice_index_or l.pool.references d 0 + sum_by (naming d) l.fn.taken ≡ slice_index_or l.fn.pool.references d 0 + sum_by (naming d) l.taken;
  bytes : l.pool.bytes ≡ l.fn.pool.bytes;
  count : length l.pool.references ≡ length l.fn.pool.references;
}

abbrev pub decreases-each : goal.decreases-each
decreases-each l = length l.taken
