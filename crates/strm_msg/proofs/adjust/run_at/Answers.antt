use Rattle.std.proofs.Common.{arith, refl}
use Rattle.strm_blocks.specs.Blocks.{in_hand, token}
use Rattle.strm_msg.specs.Adjusted.{seen_from}
use Rattle.strm_msg.proofs.Bounds.{blocks-few}
use Rattle.strm_msg.proofs.AdjustingRuns.{measured-first, run-all, run-stops, run-goes}
use Rattle.strm_msg.proofs.adjust.run_at.Goals as goal

pub loop-steps-init : goal.loop-steps-init
loop-steps-init g c = measured-first (seen_from c.args.end (in_hand (g.B.Blocks.value c.args.store.now) (token c.args.message.now))) c.kind-kind.result

pub overflow_add-len : goal.overflow_add-len
overflow_add-len g c =
    let few = blocks-few (g.B.Blocks.value c.args.store.now) (token c.args.message.now) c.audit.ensures in
    let small = c.loop-steps.invariant.small in
    omega (arith, c.block_len-len.ensures.few)

pub loop-steps-preserved : goal.loop-steps-preserved
loop-steps-preserved g c =
    run-goes c.args.end (in_hand (g.B.Blocks.value c.args.store.now) (token c.args.message.now)) c.blocks-count.ensures.count (omega arith) c.place_from.ensures.place c.kind-kind.ensures c.loop-steps.invariant c.loop-steps-test.true c.place_from-at.ensures.place c.kind.ensures c.same_kind.ensures.same c.if-not-same_kind.false c.block_len-len.ensures.count c.block_len-len.ensures.few refl

pub returns-then-not-same_kind-clause-blocks : goal.returns-then-not-same_kind-clause-blocks
returns-then-not-same_kind-clause-blocks g c =
    let both = run-stops c.args.end (in_hand (g.B.Blocks.value c.args.store.now) (token c.args.message.now)) c.blocks-count.ensures.count (omega arith) c.place_from.ensures.place c.kind-kind.ensures c.loop-steps.invariant c.loop-steps-test.true c.place_from-at.ensures.place c.kind.ensures c.same_kind.ensures.same c.if-not-same_kind.true in
    both.0

pub returns-then-not-same_kind-clause-len : goal.returns-then-not-same_kind-clause-len
returns-then-not-same_kind-clause-len g c =
    let both = run-stops c.args.end (in_hand (g.B.Blocks.value c.args.store.now) (token c.args.message.now)) c.blocks-count.ensures.count (omega arith) c.place_from.ensures.place c.kind-kind.ensures c.loop-steps.invariant c.loop-steps-test.true c.place_from-at.ensures.place c.kind.ensures c.same_kind.ensures.same c.if-not-same_kind.true in
    both.1

pub returns-clause-blocks : goal.returns-clause-blocks
returns-clause-blocks g c =
    let both = run-all c.args.end (in_hand (g.B.Blocks.value c.args.store.now) (token c.args.message.now)) c.blocks-count.ensures.count (omega arith) c.place_from.ensures.place c.kind-kind.ensures c.loop-steps.invariant (omega arith) in
    let blocks = both.0 in
    omega arith

pub returns-clause-len : goal.returns-clause-len
returns-clause-len g c =
    let both = run-all c.args.end (in_hand (g.B.Blocks.value c.args.store.now) (token c.args.message.now)) c.blocks-count.ensures.count (omega arith) c.place_from.ensures.place c.kind-kind.ensures c.loop-steps.invariant (omega arith) in
    both.1
