use Rattle.std.proofs.Common.{arith, ◌<◌, ◌∙◌, length}
use Rattle.std.proofs.lemmas.Bool.Decides.{nat_tests}
use Rattle.std.proofs.lemmas.Grind.{common_steps}
use Rattle.strm_blocks.specs.Message.{flushes_message, no_message}
use Rattle.strm_blocks.proofs.ListParts.{filter-first, filter-first_not}
use Rattle.strm_blocks.proofs.release.sift.Goals as goal

pub each-preserved : goal.each-preserved
each-preserved c =
    let some : 0 < length c.each.rest = grind (arith, nat_tests) in
    let what = c.args.what in
    let passed = filter-first (λ m. flushes_message what m) no_message c.each.taken c.each.rest some in
    let failed = filter-first_not (λ m. flushes_message what m) no_message c.each.list c.each.rest some in
    record {
      kept = rw (c.add_to_one.ensures.second, c.is_first_flushed-flushed.ensures, c.take_node-node.ensures.node, c.take_node-node.ensures.rest) (failed ∙ c.each.invariant.kept);
      taken = rw (c.add_to_one.ensures.first, c.is_first_flushed-flushed.ensures, c.take_node-node.ensures.node, c.take_node-node.ensures.rest) (passed ∙ c.each.invariant.taken);
      count = let n = c.each.invariant.count in grind (arith, common_steps);
      few = c.each.invariant.few;
    }
