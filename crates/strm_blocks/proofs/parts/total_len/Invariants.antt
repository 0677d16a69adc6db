use Rattle.std.proofs.Common.{◌≡◌, ◌+◌}
use Rattle.strm_blocks.specs.Parts.{lens}
use Rattle.strm_blocks.proofs.parts.total_len.Given as goal

abbrev pub invariant-loop-block : goal.invariant-loop-block
invariant-loop-block l = record {
  can : (goal.iterator-loop-block).can_next l.rest;
  finite : (goal.iterator-loop-block).is_finite l.rest;
  sums : l.total + lens l.rest ≡ lens l.blocks;
}
