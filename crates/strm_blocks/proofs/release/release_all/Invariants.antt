use Rattle.std.proofs.Common.{ℕ, ◌≡◌, ◌≤◌, ◌+◌, ◌==◌, length, count_by, slice_index_or}
use Rattle.strm_blocks.proofs.release.release_all.Given as goal

abbrev pub invariant-loop-block : goal.invariant-loop-block
invariant-loop-block l = record {
  can : (goal.iterator-loop-block).can_next l.rest;
  finite : (goal.iterator-loop-block).is_finite l.rest;
  enough : (d : ℕ) → count_by (λ b. b.number == d) l.rest ≤ slice_index_or l.pool.references d 0;
  released : (d : ℕ) → slice_index_or l.pool.references d 0 + count_by (λ b. b.number == d) l.blocks ≡ slice_index_or l.fn.pool.references d 0 + count_by (λ b. b.number == d) l.rest;
  bytes : l.pool.bytes ≡ l.fn.pool.bytes;
  count : length l.pool.references ≡ length l.fn.pool.references;
}
