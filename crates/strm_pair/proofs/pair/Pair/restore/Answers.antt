-- A text is the image of one state, whose blocks are free or aren't; nothing is refused behind that but memory.
use Rattle.strm_pair.proofs.Prelude.{◌∙◌, ap, arith, sym, None, Some}
use Rattle.strm_pair.specs.Prelude.{Config, Enosr, imaged_now}
use Rattle.strm_types.specs.declared.refusals.Refusal.TheVariants.{NoMemory}
use Rattle.strm_pair.specs.PairViews.{sizes_over}
use Rattle.strm_pair.specs.Pairs.{free_in}
use Rattle.strm_pair.specs.Restored.{restored}
use Rattle.strm_pair.proofs.RestoredPairs.{is-einval, is-for, limits-over, mblks-all, never-enosr, not-einval, not-enosr}
use Rattle.strm_pair.proofs.pair.Pair.restore.Goals as goal

-- a module stands there of which there are none
pub returns-then-not-all_known-clause-einval : goal.returns-then-not-all_known-clause-einval
returns-then-not-all_known-clause-einval g c =
    is-einval c.args.text.now c.in-Some.found c.in-Some.ensures.found g.M.Behaves.does (sym c.all_known.ensures ∙ c.if-not-all_known.true)

pub returns-then-not-all_known-clause-enosr : goal.returns-then-not-all_known-clause-enosr
returns-then-not-all_known-clause-enosr g c =
    never-enosr c.args.text.now c.in-Some.found c.in-Some.ensures.found g.M.Behaves.does (sym c.all_known.ensures ∙ c.if-not-all_known.true)
    (free_in (g.B.Blocks.value c.args.store))

pub returns-then-mblks-blocks-clause-einval : goal.returns-then-mblks-blocks-clause-einval
returns-then-mblks-blocks-clause-einval g c =
    let K = g.M.Behaves.does in
    not-einval c.args.text.now c.in-Some.found c.in-Some.ensures.found (Some Enosr) K (sym c.all_known.ensures ∙ c.if-not-all_known.false) (λ e. cc)

pub new-requires : goal.new-requires
new-requires g c =
    let free = c.free_blocks-mblks.ensures in
    omega (arith, c.audit.ensures.few_mblks, mblks-all (g.B.Blocks.value c.args.store) c.args.sizes c.free_blocks-mblks.result.0 c.free_blocks-mblks.result.1 c.requires.lists c.requires.hand free.message_blocks free.data_blocks)

pub returns-in_default-new-clause-einval : goal.returns-in_default-new-clause-einval
returns-in_default-new-clause-einval g c =
    let K = g.M.Behaves.does in
    not-einval c.args.text.now c.in-Some.found c.in-Some.ensures.found (Some NoMemory) K (sym c.all_known.ensures ∙ c.if-not-all_known.false)
    (λ e. cc)

pub returns-in_default-new-clause-enosr : goal.returns-in_default-new-clause-enosr
returns-in_default-new-clause-enosr g c =
    let K = g.M.Behaves.does in
    let free = c.free_blocks-mblks.ensures in
    not-enosr c.args.text.now c.in-Some.found c.in-Some.ensures.found (Some NoMemory) (free_in (g.B.Blocks.value c.args.store)) c.blocks-blocks.result c.blocks-blocks.ensures.value
    (omega (arith, c.if-mblks-blocks.false, free.message_blocks)) (omega (arith, c.if-dblks-blocks.false, free.data_blocks)) K (λ e. cc)

pub made_of-requires-clause-limits : goal.made_of-requires-clause-limits
made_of-requires-clause-limits g c =
    let free = c.free_blocks-mblks.ensures in
    let s = g.B.Blocks.value c.args.store in
    let same = limits-over s c.args.sizes c.free_blocks-mblks.result.0 c.free_blocks-mblks.result.1 c.requires.lists c.requires.hand free.message_blocks free.data_blocks in
    same ∙ sym (ap (λ (l : Config). sizes_over s l) same)

pub returns-clause-einval : goal.returns-clause-einval
returns-clause-einval g c =
    let K = g.M.Behaves.does in
    not-einval c.args.text.now c.in-Some.found c.in-Some.ensures.found None K (sym c.all_known.ensures ∙ c.if-not-all_known.false) (λ e. cc)

pub returns-clause-enosr : goal.returns-clause-enosr
returns-clause-enosr g c =
    let K = g.M.Behaves.does in
    let free = c.free_blocks-mblks.ensures in
    not-enosr c.args.text.now c.in-Some.found c.in-Some.ensures.found None (free_in (g.B.Blocks.value c.args.store)) c.blocks-blocks.result c.blocks-blocks.ensures.value
    (omega (arith, c.if-mblks-blocks.false, free.message_blocks)) (omega (arith, c.if-dblks-blocks.false, free.data_blocks)) K (λ e. cc)

pub returns-clause-ok : goal.returns-clause-ok
returns-clause-ok g c =
    let free = c.free_blocks-mblks.ensures in
    let x = imaged_now c.in-Some.found.state in
    let same = limits-over (g.B.Blocks.value c.args.store) c.args.sizes c.free_blocks-mblks.result.0 c.free_blocks-mblks.result.1 c.requires.lists c.requires.hand free.message_blocks free.data_blocks in
    let known = sym c.all_known.ensures ∙ c.if-not-all_known.false in
    (x, (is-for c.args.text.now c.in-Some.found c.in-Some.ensures.found None g.M.Behaves.does known, c.made_of.ensures ∙ ap (λ l. restored l x) same))
