use Rattle.std.proofs.Common.{ap, ◌∙◌, subst}
use Rattle.std.specs.Bool.{OnTrue, OnFalse}
use Rattle.strm_raw.specs.Numbered.{Row, msg_number}
use Rattle.strm_raw.specs.Places.{Passes, Stops, rank_by}
use Rattle.strm_raw.proofs.Placing.{begins-at, next-there, steps-past, stops-here, stops-last, stops-none}
use Rattle.strm_raw.proofs.ranks.ranked.Goals as goal

pub loop-left-init : goal.loop-left-init
loop-left-init c = begins-at c.beside-at.ensures.there c.beside-at.ensures.step c.messages-left.result c.messages-left.ensures

pub returns-in_default-clause-place : goal.returns-in_default-clause-place
returns-in_default-clause-place c = stops-none c.loop-left.invariant c.in_default.is

pub returns-then-stops-clause-place : goal.returns-then-stops-clause-place
returns-then-stops-clause-place c =
    let v = c.args.memory.now in let rank = c.rank_of.ensures ∙ ap (λ (r : Row). rank_by r.kind r.band) c.message-node.ensures.row in
    let stop = subst (λ b. OnTrue b (Stops c.args.course c.args.rank c.rank_of.result)) c.if-stops.true c.stops.ensures.stops in
    stops-here c.loop-left.invariant c.in-Some.link c.in-Some.is (subst (λ n. Stops c.args.course c.args.rank n) rank stop)

pub returns-clause-place : goal.returns-clause-place
returns-clause-place c = stops-last c.loop-left.invariant c.loop-left-test.false

pub loop-left-preserved : goal.loop-left-preserved
loop-left-preserved c =
    let v = c.args.memory.now in let rank = c.rank_of.ensures ∙ ap (λ (r : Row). rank_by r.kind r.band) c.message-node.ensures.row in
    let pass = subst (λ b. OnFalse b (Passes c.args.course c.args.rank c.rank_of.result)) c.if-stops.false c.stops.ensures.passes in
    let row = c.message-node.ensures.row in let links = c.message-node.ensures.links in
    let next = next-there c.args.course v c.args.ends (msg_number v.mat c.in-Some.link) _ _ _ c.pick-at.ensures (ap (λ (r : Row). r.ahead) row) (ap (λ (r : Row). r.behind) row) links.ahead links.behind in
    steps-past c.loop-left.invariant c.in-Some.link c.in-Some.is (subst (λ n. Passes c.args.course c.args.rank n) rank pass) _ next.0 next.1
