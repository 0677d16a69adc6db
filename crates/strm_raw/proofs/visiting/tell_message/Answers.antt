use Rattle.std.proofs.Common.{ap, sym, ◌∙◌, arith}
use Rattle.strm_raw.specs.Numbered.{Row, msg_number}
use Rattle.strm_raw.proofs.Telling.{seen-node, tells-begin, tells-all, tells-last, tells-past, tells-step}
use Rattle.strm_raw.proofs.visiting.tell_message.Goals as goal

pub loop-left-init : goal.loop-left-init
loop-left-init g c = tells-begin g.V.Visitor.after g.V.Visitor.goes_on c.requires.there c.messages-left.result c.messages-left.ensures

pub returns-then-not-see : goal.returns-then-not-see
returns-then-not-see g c = λ is chain few.
    let v = c.args.memory.now in let after = g.V.Visitor.after in let w = c.loop-left.visitor in
    let is_told = c.see.ensures.seen ∙ ap (λ s. after w s) (seen-node v c.loop-left.leads (msg_number v.mat c.loop-left.link) c.message-node.result c.datum.result.now c.message-node.ensures.row c.datum.ensures.row) in
    tells-last after g.V.Visitor.goes_on c.loop-left.invariant is_told (sym c.see.ensures.more ∙ c.if-not-see.true) is chain

pub returns-in_default : goal.returns-in_default
returns-in_default g c = λ is chain few.
    let v = c.args.memory.now in let after = g.V.Visitor.after in let w = c.loop-left.visitor in
    let is_told = c.see.ensures.seen ∙ ap (λ s. after w s) (seen-node v c.loop-left.leads (msg_number v.mat c.loop-left.link) c.message-node.result c.datum.result.now c.message-node.ensures.row c.datum.ensures.row) in
    tells-all after g.V.Visitor.goes_on c.loop-left.invariant is_told c.loop-left-test.true (ap (λ (r : Row). r.next) c.message-node.ensures.row) (sym c.see.ensures.more ∙ c.if-not-see.false) c.in_default.is is chain

pub returns : goal.returns
returns g c = λ is chain few. absurd (tells-past g.V.Visitor.after g.V.Visitor.goes_on c.loop-left.invariant (let no = c.loop-left-test.false in omega arith) is chain few)

pub loop-left-preserved : goal.loop-left-preserved
loop-left-preserved g c =
    let v = c.args.memory.now in let after = g.V.Visitor.after in let w = c.loop-left.visitor in
    let is_told = c.see.ensures.seen ∙ ap (λ s. after w s) (seen-node v c.loop-left.leads (msg_number v.mat c.loop-left.link) c.message-node.result c.datum.result.now c.message-node.ensures.row c.datum.ensures.row) in
    tells-step after g.V.Visitor.goes_on c.loop-left.invariant is_told c.loop-left-test.true (ap (λ (r : Row). r.next) c.message-node.ensures.row) (sym c.see.ensures.more ∙ c.if-not-see.false) c.in-Some.next c.in-Some.is c.message-node.ensures.links.next
