use Rattle.std.proofs.Common.{◌≡◌, ◌+◌, ◌==◌, length}
use Rattle.std.specs.List.{position_or_len}
use Rattle.strm_blocks.proofs.message.place_of.Given as goal

abbrev pub invariant-loop-message : goal.invariant-loop-message
invariant-loop-message l = record {
  can : (goal.iterator-loop-message).can_next l.rest;
  finite : (goal.iterator-loop-message).is_finite l.rest;
  count : l.place + length l.rest ≡ length l.list;
  found : l.place + position_or_len (λ m. m.name == l.name) l.rest ≡ position_or_len (λ m. m.name == l.name) l.list;
}
