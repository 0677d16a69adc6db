use Rattle.std.proofs.Common.{arith}
use Rattle.strm_msg.proofs.Adjusting.{trimming-first, trimming-in_hand, trimming-length, trimming-next}
use Rattle.strm_msg.proofs.adjust.trim_blocks.Goals as goal
use Rattle.strm_blocks.specs.Blocks.{token}

pub loop-steps-init : goal.loop-steps-init
loop-steps-init g c = trimming-first (g.B.Blocks.value c.args.store.now) c.args.end (token c.args.message.now) c.args.n

pub block_len-requires-clause-in_hand : goal.block_len-requires-clause-in_hand
block_len-requires-clause-in_hand g c = trimming-in_hand c.requires.in_hand c.loop-steps.invariant

pub block_len-requires-clause-within : goal.block_len-requires-clause-within
block_len-requires-clause-within g c =
    let within = c.requires.within in
    let same = trimming-length c.requires.in_hand c.loop-steps.invariant (omega arith) in
    omega (arith, c.place_from-at.ensures.within, c.blocks-count.ensures.count)

pub trim_block-requires-clause-in_hand : goal.trim_block-requires-clause-in_hand
trim_block-requires-clause-in_hand g c = trimming-in_hand c.requires.in_hand c.loop-steps.invariant

pub trim_block-requires-clause-within : goal.trim_block-requires-clause-within
trim_block-requires-clause-within g c =
    let within = c.requires.within in
    let same = trimming-length c.requires.in_hand c.loop-steps.invariant (omega arith) in
    omega (arith, c.place_from-at.ensures.within, c.blocks-count.ensures.count)

pub loop-steps-preserved : goal.loop-steps-preserved
loop-steps-preserved g c =
    let within = c.requires.within in
    let part_is = c.min-part.ensures in
    let len = c.block_len.ensures.count in
    trimming-next c.requires.in_hand c.loop-steps.invariant (omega arith) c.place_from-at.result c.min-part.result c.blocks-count.ensures.count c.place_from-at.ensures.place (omega arith) (omega arith) c.trim_block.ensures
