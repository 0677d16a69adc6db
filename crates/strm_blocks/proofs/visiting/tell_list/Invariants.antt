use Rattle.std.proofs.Common.{◌≡◌, map}
use Rattle.std.specs.List.{AllByRecursion}
use Rattle.strm_blocks.specs.Outcomes.{seen_on, told}
use Rattle.strm_blocks.specs.Table.{IsShown, chain_of}
use Rattle.strm_blocks.proofs.visiting.tell_list.Given as goal

abbrev pub invariant-loop-message : goal.invariant-loop-message
invariant-loop-message g l = record {
  can : (goal.iterator-loop-message g).can_next l.rest;
  finite : (goal.iterator-loop-message g).is_finite l.rest;
  show : AllByRecursion (λ m. AllByRecursion (IsShown l.fn.pool) m.blocks) l.rest;
  same : told g.V.Visitor.after g.V.Visitor.goes_on l.fn.visitor (seen_on (map (chain_of l.fn.pool.bytes) l.fn.list))
      ≡ told g.V.Visitor.after g.V.Visitor.goes_on l.visitor (seen_on (map (chain_of l.fn.pool.bytes) l.rest));
}
