-- Bands where nothing stands add nothing.
use Rattle.std.proofs.Common.{◌≤◌, length, ap, ◌∙◌, arith}
use Rattle.strm_queue.specs.Flows.{count_in, kept_bytes}
use Rattle.strm_queue.specs.Kept.{flow_at}
use Rattle.strm_queue.proofs.Gaps.{next-sum, all-sum}
use Rattle.strm_queue.proofs.Passing.{sum-small, kept-less, kept-none}
use Rattle.strm_queue.proofs.banded.Banded.total.Goals as goal

pub overflow_add-total : goal.overflow_add-total
overflow_add-total c =
    let kept = kept_bytes c.args.data_alone in
    let is = c.loop-at.invariant in
    let within : c.loop-at.from ≤ length c.args.self.now = omega (arith, is.within, c.filled-filled.ensures.each) in
    let small = sum-small kept c.args.self.now c.loop-at.from within (kept-less c.args.data_alone) c.requires in
    let count = ap count_in c.at-flow.ensures.flow in
    omega (arith, is.within, is.total, small, c.kept.ensures, kept-less c.args.data_alone c.at-flow.result, count, c.requires c.in-Some.at)

pub loop-at-preserved : goal.loop-at-preserved
loop-at-preserved c =
    let kept = kept_bytes c.args.data_alone in
    let filled = c.filled-filled.ensures in
    let next = c.in-Some.ensures in
    let sum = next-sum c.filled-filled.result c.args.self.now filled.each c.loop-at.from kept (λ k lt none. kept-none c.args.data_alone (flow_at k c.args.self.now) (filled.none k lt none)) c.in-Some.at next in
    let flow = ap kept c.at-flow.ensures.flow in
    record {
      within = next.within;
      total = omega (arith, c.loop-at.invariant.total, sum, c.kept.ensures, flow);
    }

pub returns : goal.returns
returns c =
    let kept = kept_bytes c.args.data_alone in
    let filled = c.filled-filled.ensures in
    c.loop-at.invariant.total
    ∙ all-sum c.filled-filled.result c.args.self.now filled.each c.loop-at.from kept (λ k lt none. kept-none c.args.data_alone (flow_at k c.args.self.now) (filled.none k lt none)) c.loop-at.invariant.within c.in_default.ensures
