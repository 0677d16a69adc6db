-- Bytes go out block by block, until none is left or blocks are few.
use Rattle.strm_ldterm.proofs.Prelude.{◌≤◌, [], sym, ◌∙◌, arith}
use Rattle.strm_ldterm.specs.Prelude.{STOP_BLOCKS, least_free}
use Rattle.strm_ldterm.specs.Stands.{paired}
use Rattle.strm_ldterm.proofs.Bytes.{lower, some-went}
use Rattle.strm_ldterm.proofs.Joining.{still-kept}
use Rattle.strm_ldterm.proofs.Poured.{pours-are, pours-more, pours-none, pours-some}
use Rattle.strm_ldterm.proofs.output.post_bytes.Goals as goal

pub loop-left-init : goal.loop-left-init
loop-left-init g c = pours-none (g.B.Blocks.value c.args.store.now) c.args.here (paired c.args.ldterm.now c.args.queues.now) c.args.bytes c.args.told.now c.requires.held

pub post_front-left-requires-clause-held : goal.post_front-left-requires-clause-held
post_front-left-requires-clause-held g c = c.loop-left.invariant.does.held

pub post_front-left-requires-clause-kept : goal.post_front-left-requires-clause-kept
post_front-left-requires-clause-kept g c =
    still-kept (g.B.Blocks.value c.args.store.now) (g.B.Blocks.value c.loop-left.store) (paired c.args.ldterm.now c.args.queues.now) (paired c.loop-left.ldterm c.args.queues.now) _ [] c.args.told.now c.loop-left.told _ c.audit.ensures
    c.loop-left.invariant.does c.requires.kept

pub post_front-left-requires-clause-work : goal.post_front-left-requires-clause-work
post_front-left-requires-clause-work g c =
    pours-some (g.B.Blocks.value c.args.store.now) (g.B.Blocks.value c.loop-left.store) c.args.here (paired c.args.ldterm.now c.args.queues.now) (paired c.loop-left.ldterm c.args.queues.now) c.args.bytes c.loop-left.left c.args.told.now c.loop-left.told c.requires.work c.requires.bytes c.loop-left.invariant

pub post_front-left-requires-clause-some : goal.post_front-left-requires-clause-some
post_front-left-requires-clause-some g c =
    let l = pours-are (g.B.Blocks.value c.args.store.now) (g.B.Blocks.value c.loop-left.store) c.args.here (paired c.args.ldterm.now c.args.queues.now) (paired c.loop-left.ldterm c.args.queues.now) c.args.bytes c.loop-left.left c.args.told.now c.loop-left.told c.requires.work c.requires.bytes c.loop-left.invariant in
    omega arith

pub overflow_sub-left : goal.overflow_sub-left
overflow_sub-left g c =
    let l = pours-are (g.B.Blocks.value c.args.store.now) (g.B.Blocks.value c.loop-left.store) c.args.here (paired c.args.ldterm.now c.args.queues.now) (paired c.loop-left.ldterm c.args.queues.now) c.args.bytes c.loop-left.left c.args.told.now c.loop-left.told c.requires.work c.requires.bytes c.loop-left.invariant in
    let within = c.post_front-left.ensures.within in
    omega arith

pub loop-left-preserved : goal.loop-left-preserved
loop-left-preserved g c =
    let s = g.B.Blocks.value c.args.store.now in
    let t = g.B.Blocks.value c.loop-left.store in
    let l = pours-are s t c.args.here (paired c.args.ldterm.now c.args.queues.now) (paired c.loop-left.ldterm c.args.queues.now) c.args.bytes c.loop-left.left c.args.told.now c.loop-left.told c.requires.work c.requires.bytes c.loop-left.invariant in
    let within : c.post_front-left.result ≤ c.loop-left.left = (let w = c.post_front-left.ensures.within in omega arith) in
    pours-more s t c.args.here (paired c.args.ldterm.now c.args.queues.now) (paired c.loop-left.ldterm c.args.queues.now) c.args.bytes c.loop-left.left c.args.told.now c.loop-left.told c.requires.work c.requires.bytes c.loop-left.invariant
    (g.B.Blocks.value c.post_front-left.new.store) (paired c.post_front-left.new.ldterm c.args.queues.now) c.post_front-left.result 1 c.post_front-left.new.told c.audit.ensures c.post_front-left.ensures.some within c.post_front-left.ensures.does c.post_front-left.ensures.begun

pub returns-else-not-are_few : goal.returns-else-not-are_few
returns-else-not-are_few g c =
    let s = g.B.Blocks.value c.args.store.now in
    let t = g.B.Blocks.value c.loop-left.store in
    let few = lower (least_free t) STOP_BLOCKS (sym c.are_few.ensures ∙ c.if-not-are_few.false) in
    record {
      fewer = c.loop-left.invariant.fewer;
      does = c.loop-left.invariant.does;
      begun = c.loop-left.invariant.begun;
      stops = λ some. few;
      some = λ some many. some-went s t c.args.bytes c.loop-left.left c.loop-left.invariant.some few many;
    }
