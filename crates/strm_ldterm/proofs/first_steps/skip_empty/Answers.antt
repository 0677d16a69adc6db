-- A block at a time.
use Rattle.std.proofs.Common.{◌≡◌, ◌<◌, length, arith}
use Rattle.strm_blocks.specs.Blocks.{in_hand, token}
use Rattle.strm_ldterm.proofs.Skipped.{skips-more, skipped-front, skipped-none}
use Rattle.strm_ldterm.proofs.first_steps.skip_empty.Goals as goal

pub loop-preserved : goal.loop-preserved
loop-preserved g c =
    let s = g.B.Blocks.value c.args.store.now in
    let t = g.B.Blocks.value c.loop.store in
    let j = token c.loop.message in
    let more : 1 < length (in_hand t j) = let l = c.loop.invariant.left in let n = c.blocks-end.ensures.count in let k = c.loop-test.true in omega arith in
    skips-more s t (g.B.Blocks.value c.drop_first-message.new.store) (token c.args.message) j (token c.drop_first-message.result) c.loop.counter c.audit.ensures c.loop.invariant more
    (let l = c.block_len.ensures.count in let z = c.if-block_len-gt0.false in omega arith) c.drop_first-message.ensures.fresh c.drop_first-message.ensures.after

pub returns-clause-shown : goal.returns-clause-shown
returns-clause-shown g c = λ none.
    let s = g.B.Blocks.value c.args.store.now in
    let t = g.B.Blocks.value c.loop.store in
    let j = token c.loop.message in
    let single : length (in_hand t j) ≡ 1 =
    let l = c.loop.invariant.left in let n = c.blocks-end.ensures.count in let k = c.loop-test.false in let some = c.loop.invariant.became.is.chain.some in omega arith in
    skipped-none s t (token c.args.message) j c.loop.invariant.became single none

pub returns-clause-front : goal.returns-clause-front
returns-clause-front g c =
    let t = g.B.Blocks.value c.loop.store in
    let j = token c.loop.message in
    let single : length (in_hand t j) ≡ 1 =
    let l = c.loop.invariant.left in let n = c.blocks-end.ensures.count in let k = c.loop-test.false in let some = c.loop.invariant.became.is.chain.some in omega arith in
    skipped-front t j single
