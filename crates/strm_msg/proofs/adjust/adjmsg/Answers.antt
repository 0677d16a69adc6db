use Rattle.std.proofs.Common.{◌∙◌, ap, refl, true, false, unsigned_abs, rules}
use Rattle.std.proofs.lemmas.Int.{to_z-of_z}
use Rattle.strm_msg.specs.Adjusted.{end_of}
use Rattle.strm_msg.proofs.AdjustingStore.{IsAdjusted, refused-is, trimmed-is, adjusted-nothing, adjusted-left, adjusted-blocks, adjusted-free_m, adjusted-free_d}
use Rattle.strm_msg.proofs.adjust.adjmsg.Given as given
use Rattle.strm_msg.proofs.adjust.adjmsg.Goals as goal
use Rattle.strm_blocks.specs.Blocks.{token}

refused : (g : given.Over) (c : goal.Then-run-size g) → IsAdjusted (g.B.Blocks.value c.args.store.now) (g.B.Blocks.value c.args.store.now) (token c.args.message.now) c.args.n false
refused g c =
    let back = to_z-of_z _ c.args.n c.ranges.n in
    refused-is (g.B.Blocks.value c.args.store.now) (token c.args.message.now) c.args.n (c.end_of-end.ensures ∙ ap end_of back) (c.unsigned_abs-size.ensures.value ∙ ap unsigned_abs back) c.run_at-run.ensures.len c.if-run-size.true

carried : (g : given.Over) (c : goal.After-trim_blocks g) → IsAdjusted (g.B.Blocks.value c.args.store.now) (g.B.Blocks.value c.trim_blocks.new.store) (token c.args.message.now) c.args.n true
carried g c =
    let back = to_z-of_z _ c.args.n c.ranges.n in
    trimmed-is (g.B.Blocks.value c.args.store.now) (token c.args.message.now) c.args.n (c.end_of-end.ensures ∙ ap end_of back) (c.unsigned_abs-size.ensures.value ∙ ap unsigned_abs back) c.run_at-run.ensures.len c.if-run-size.false c.run_at-run.ensures.blocks c.trim_blocks.ensures

pub returns-then-run-size-clause-answer : goal.returns-then-run-size-clause-answer
returns-then-run-size-clause-answer g c = let so = refused g c in so.answer_is

pub returns-then-run-size-clause-trimmed : goal.returns-then-run-size-clause-trimmed
returns-then-run-size-clause-trimmed g c = let so = refused g c in so.after

pub returns-then-run-size-clause-left : goal.returns-then-run-size-clause-left
returns-then-run-size-clause-left g c = search rules steps 30000

pub returns-clause-answer : goal.returns-clause-answer
returns-clause-answer g c = let so = carried g c in so.answer_is

pub returns-clause-trimmed : goal.returns-clause-trimmed
returns-clause-trimmed g c = let so = carried g c in so.after

pub returns-clause-nothing : goal.returns-clause-nothing
returns-clause-nothing g c = adjusted-nothing c.requires (carried g c)

pub returns-clause-left : goal.returns-clause-left
returns-clause-left g c = adjusted-left c.requires (carried g c) refl

pub returns-clause-blocks : goal.returns-clause-blocks
returns-clause-blocks g c = adjusted-blocks c.requires (carried g c)

pub returns-clause-free_m : goal.returns-clause-free_m
returns-clause-free_m g c = adjusted-free_m c.requires (carried g c)

pub returns-clause-free_d : goal.returns-clause-free_d
returns-clause-free_d g c = adjusted-free_d c.requires (carried g c)
