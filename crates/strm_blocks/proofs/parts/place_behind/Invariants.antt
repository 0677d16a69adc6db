use Rattle.std.proofs.Common.{◌≡◌, ◌+◌, nat_le, length}
use Rattle.std.specs.List.{prefix_len}
use Rattle.strm_blocks.specs.Message.{rank_in}
use Rattle.strm_blocks.proofs.parts.place_behind.Given as goal

abbrev pub invariant-loop-message : goal.invariant-loop-message
invariant-loop-message l = record {
  can : (goal.iterator-loop-message).can_next l.rest;
  finite : (goal.iterator-loop-message).is_finite l.rest;
  count : l.place + length l.rest ≡ length l.list;
  found : l.place + prefix_len (λ m. nat_le l.rank (rank_in m.blocks)) l.rest ≡ prefix_len (λ m. nat_le l.rank (rank_in m.blocks)) l.list;
}
