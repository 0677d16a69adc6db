use Rattle.std.proofs.Common.{ap}
use Rattle.strm_raw.specs.Numbered.{Row}
use Rattle.strm_raw.proofs.Telling.{list-begins, list-steps, list-stops}
use Rattle.strm_raw.proofs.visiting.tell_list.Goals as goal

pub loop-left-init : goal.loop-left-init
loop-left-init g c = list-begins g.V.Visitor.after g.V.Visitor.goes_on c.args.memory.now c.args.ends c.args.visitor.now c.requires.there c.messages-left.result c.messages-left.ensures

pub returns-then-not-tell_message : goal.returns-then-not-tell_message
returns-then-not-tell_message g c =
    list-stops g.V.Visitor.after g.V.Visitor.goes_on c.args.memory.now c.args.ends c.args.visitor.now c.loop-left.at c.loop-left.left c.loop-left.visitor c.tell_message.new.visitor c.loop-left.invariant c.in-Some.link c.in-Some.is c.tell_message.result c.tell_message.ensures
    c.if-not-tell_message.true

pub loop-left-preserved : goal.loop-left-preserved
loop-left-preserved g c =
    list-steps g.V.Visitor.after g.V.Visitor.goes_on c.args.memory.now c.args.ends c.args.visitor.now c.loop-left.at c.loop-left.left c.loop-left.visitor c.tell_message.new.visitor c.loop-left.invariant c.in-Some.link c.in-Some.is c.tell_message.result c.tell_message.ensures
    c.if-not-tell_message.false c.message-at.result.ahead (ap (λ (r : Row). r.ahead) c.message-at.ensures.row) c.message-at.ensures.links.ahead
