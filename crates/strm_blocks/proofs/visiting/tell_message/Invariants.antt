use Rattle.std.proofs.Common.{◌≡◌, ◌++◌, List, true, map}
use Rattle.std.specs.List.{AllByRecursion}
use Rattle.strm_blocks.specs.Outcomes.{SeenBlock, seen_in, told}
use Rattle.strm_blocks.specs.Table.{IsShown, shown}
use Rattle.strm_blocks.proofs.visiting.tell_message.Given as goal

abbrev pub invariant-loop-block : goal.invariant-loop-block
invariant-loop-block g l = record {
  can : (goal.iterator-loop-block g).can_next l.rest;
  finite : (goal.iterator-loop-block g).is_finite l.rest;
  shows : AllByRecursion (IsShown l.fn.pool) l.rest;
  same : (more : List SeenBlock) → told g.V.Visitor.after g.V.Visitor.goes_on l.fn.visitor (seen_in true (map (shown l.fn.pool.bytes) l.fn.blocks) ++ more)
      ≡ told g.V.Visitor.after g.V.Visitor.goes_on l.visitor (seen_in l.first (map (shown l.fn.pool.bytes) l.rest) ++ more);
}
