use Rattle.std.proofs.Common.{refl, sym, subst, ◌∙◌, arith}
use Rattle.strm_frame.specs.Outboxes.{sent_of}
use Rattle.strm_ldterm.specs.Does.{Proceeds}
use Rattle.strm_ldterm.specs.Stands.{ldterm_in, stage_in, paired}
use Rattle.strm_ldterm.specs.Turns.{ahead, stages_left}
use Rattle.strm_ldterm.proofs.Bytes.{kept-some, lower}
use Rattle.strm_ldterm.proofs.Calls.{resumed-between, resumed-goes-on, resumed-sends, resumed-short, resumed-work}
use Rattle.strm_ldterm.proofs.Struck.{some-left}
use Rattle.strm_ldterm.proofs.service_calls.treat.Goals as goal

pub returns-then-not-is_empty : goal.returns-then-not-is_empty
returns-then-not-is_empty g c =
    let s = g.B.Blocks.value c.args.store.now in
    let under = lower 0 (stages_left (stage_in c.args.ldterm.now.stage)) (sym c.is_under_way.ensures ∙ c.if-not-is_under_way.false) in
    let some = some-left (sent_of c.resume-first.result.sent) c.is_empty.result c.if-not-is_empty.true c.is_empty.ensures in
    resumed-sends s (g.B.Blocks.value c.resume-first.new.store) c.args.here (paired c.args.ldterm.now c.args.queues.now) (paired c.resume-first.new.ldterm c.resume-first.new.queues) c.args.told.now c.resume-first.new.told c.resume-first.result
    under (kept-some s c.args.ldterm.now.in_work ∙ c.requires.work) some c.resume-first.ensures.does (c.resume-first.ensures.leaves some)

pub treat_on-rest-requires-clause-stage : goal.treat_on-rest-requires-clause-stage
treat_on-rest-requires-clause-stage g c =
    let under = lower 0 (stages_left (stage_in c.args.ldterm.now.stage)) (sym c.is_under_way.ensures ∙ c.if-not-is_under_way.false) in
    resumed-between (g.B.Blocks.value c.args.store.now) (g.B.Blocks.value c.resume-first.new.store) c.args.here (paired c.args.ldterm.now c.args.queues.now) (paired c.resume-first.new.ldterm c.resume-first.new.queues) c.args.told.now c.resume-first.new.told
    under c.resume-first.result.notes.items (sent_of c.resume-first.result.sent) c.resume-first.ensures.does (c.if-not-is_empty.ensures.0 refl)

pub treat_on-rest-requires-clause-work : goal.treat_on-rest-requires-clause-work
treat_on-rest-requires-clause-work g c =
    let under = lower 0 (stages_left (stage_in c.args.ldterm.now.stage)) (sym c.is_under_way.ensures ∙ c.if-not-is_under_way.false) in
    resumed-work (g.B.Blocks.value c.args.store.now) (g.B.Blocks.value c.resume-first.new.store) c.args.here (paired c.args.ldterm.now c.args.queues.now) (paired c.resume-first.new.ldterm c.resume-first.new.queues) c.args.told.now c.resume-first.new.told
    under c.resume-first.result.notes.items (sent_of c.resume-first.result.sent) c.resume-first.ensures.does c.requires.work

pub join-requires : goal.join-requires
join-requires g c =
    let under = lower 0 (stages_left (stage_in c.args.ldterm.now.stage)) (sym c.is_under_way.ensures ∙ c.if-not-is_under_way.false) in
    let two = resumed-short (g.B.Blocks.value c.args.store.now) (g.B.Blocks.value c.resume-first.new.store) c.args.here (paired c.args.ldterm.now c.args.queues.now) (paired c.resume-first.new.ldterm c.resume-first.new.queues) c.args.told.now c.resume-first.new.told
    under c.resume-first.result.notes.items (sent_of c.resume-first.result.sent) c.resume-first.ensures.does in
    let more = c.treat_on-rest.ensures.noted in
    omega arith

pub returns : goal.returns
returns g c =
    let s = g.B.Blocks.value c.args.store.now in
    let s1 = g.B.Blocks.value c.resume-first.new.store in
    let x = (paired c.args.ldterm.now c.args.queues.now) in
    let first = c.resume-first in
    let under = lower 0 (stages_left (stage_in x.stage)) (sym c.is_under_way.ensures ∙ c.if-not-is_under_way.false) in
    resumed-goes-on s s1 (g.B.Blocks.value c.treat_on-rest.new.store) c.args.here x (paired first.new.ldterm first.new.queues) (paired c.treat_on-rest.new.ldterm c.treat_on-rest.new.queues) c.args.told.now first.new.told c.treat_on-rest.new.told
    first.result.notes.items c.treat_on-rest.result c.join.result c.audit.ensures under c.join.ensures
    (subst (λ out. Proceeds s s1 x (paired first.new.ldterm first.new.queues) 26 first.result.notes.items out c.args.told.now first.new.told (ahead c.args.here (stages_left (stage_in x.stage)) (ldterm_in s x))) (c.if-not-is_empty.ensures.0 refl) first.ensures.does)
    c.treat_on-rest.ensures.does
