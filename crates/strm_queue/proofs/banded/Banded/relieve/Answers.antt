-- Bands for which no writer waits stay as they are.
use Rattle.std.proofs.Common.{sym, ◌∙◌}
use Rattle.strm_queue.specs.Flows.{relieved}
use Rattle.strm_queue.specs.Kept.{flow_at}
use Rattle.strm_queue.proofs.Flushed.{none-waits, waits-none}
use Rattle.strm_queue.proofs.Gaps.{next-passed, next-went, all-went}
use Rattle.strm_queue.proofs.banded.Banded.relieve.Goals as goal

pub loop-at-preserved : goal.loop-at-preserved
loop-at-preserved c =
    let old = c.args.self.now in
    let new = c.loop-at.self in
    let waiting = c.waiting-waiting.ensures in
    let next = c.in-Some.ensures in
    let at = c.in-Some.at in
    let sofar = c.loop-at.invariant in
    record {
      within = next.within;
      passed = rw (c.set.ensures, c.relieved.ensures, c.at-flow.ensures.flow)
          (next-passed c.waiting-waiting.result old waiting.each c.loop-at.from relieved new (λ k lt none. sym (none-waits (flow_at k old) (sym (waiting.waits k lt) ∙ none))) sofar.passed at next);
      went = rw (c.lets_go-went.ensures, c.at-flow.ensures.flow)
          (next-went c.waiting-waiting.result old waiting.each c.loop-at.from (λ k lt none. waits-none (flow_at k old) (sym (waiting.waits k lt) ∙ none)) new at c.loop-at.went next (sofar.passed.behind at next.from_on) sofar.went);
    }

pub returns-clause-went : goal.returns-clause-went
returns-clause-went c =
    let old = c.args.self.now in
    let waiting = c.waiting-waiting.ensures in
    c.loop-at.invariant.went
    ∙ all-went c.waiting-waiting.result old waiting.each c.loop-at.from (λ k lt none. waits-none (flow_at k old) (sym (waiting.waits k lt) ∙ none)) c.loop-at.invariant.within c.in_default.ensures
