use Rattle.std.proofs.Common.{ℕ, ◌≡◌, ◌≤◌, if◌then◌else◌, nat_lt}
use Rattle.std.specs.Prelude.{replicate}
use Rattle.std.specs.Vec.{vec_capacity, vec_len}
use Rattle.strm_blocks.specs.Pool.{times}
use Rattle.strm_blocks.proofs.data.DataBlocks.reset.Given as goal

abbrev pub invariant-loop-number : goal.invariant-loop-number
invariant-loop-number l = record {
  each : (n : ℕ) → times n l.self-inside.free.items ≡ (if nat_lt n l.number then 1 else 0);
  len : vec_len l.self-inside.free ≡ l.number;
  room : l.count ≤ vec_capacity l.self-inside.free;
  bytes : l.self-inside.bytes.items ≡ l.fn.self.bytes;
  references : l.self-inside.references.items ≡ replicate l.count 0;
}
