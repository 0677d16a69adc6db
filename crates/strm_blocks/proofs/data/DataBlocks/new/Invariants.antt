use Rattle.std.proofs.Common.{ℕ, ◌≡◌, ◌≤◌, ◌<◌, [], if◌then◌else◌, nat_lt, length, get_or}
use Rattle.std.specs.Vec.{vec_capacity, vec_len}
use Rattle.strm_blocks.specs.Pool.{times}
use Rattle.strm_blocks.proofs.data.DataBlocks.new.Given as goal

abbrev pub invariant-loop-number : goal.invariant-loop-number
invariant-loop-number l = record {
  each : (n : ℕ) → times n l.free.items ≡ (if nat_lt n l.number then 1 else 0);
  len : vec_len l.free ≡ l.number;
  room : l.count ≤ vec_capacity l.free;
  bytes_len : vec_len l.bytes ≡ l.number;
  bytes_room : l.count ≤ vec_capacity l.bytes;
  sized : (n : ℕ) → n < l.number → length (get_or l.bytes.items n []) ≡ 256;
}
