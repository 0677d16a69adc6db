use Rattle.std.proofs.Common.{sym, subst, ◌∙◌}
use Rattle.strm_frame.specs.Outboxes.{sent_of}
use Rattle.strm_ldterm.specs.Called.{TreatsAs}
use Rattle.strm_ldterm.specs.Stands.{paired}
use Rattle.strm_ldterm.proofs.Bytes.{kept-some}
use Rattle.strm_ldterm.proofs.Calls.{into-short, into-treats, out-short, out-treats}
use Rattle.strm_ldterm.proofs.Whole.{whole-is, whole-treats}
use Rattle.strm_ldterm.proofs.service_calls.treat_on.Goals as goal

pub returns-then-goes_up-clause-does : goal.returns-then-goes_up-clause-does
returns-then-goes_up-clause-does g c =
    let s = g.B.Blocks.value c.args.store.now in
    let s' = g.B.Blocks.value c.pass_work-sent.new.store in
    let x = (paired c.args.ldterm.now c.args.queues.now) in
    let x' = (paired c.pass_work-sent.new.ldterm c.args.queues.now) in
    let t = c.args.told.now in
    let up = c.if-goes_up.true in
    let done = c.of_whole.ensures in
    let bytes = c.work_left-bytes.result in
    let sent = c.pass_work-sent.result in
    subst (λ v. TreatsAs s s' c.args.here x x' v t t) (sym (whole-is c.of_whole.result sent bytes done.sent done.bytes done.stopped done.again))
    (whole-treats s s' c.args.here x x' t bytes c.of_whole.result.acts.notes sent
    c.requires.held c.requires.stage (c.work_left-bytes.ensures.bytes c.args.queues.now) (c.goes_up.ensures.some up) (c.goes_up.ensures.may c.args.queues.now up) (c.goes_up.ensures.room up) done.notes (c.pass_work-sent.ensures c.args.queues.now t c.requires.held c.requires.kept))

pub returns-in-Into-clause-does : goal.returns-in-Into-clause-does
returns-in-Into-clause-does g c =
    let s = g.B.Blocks.value c.args.store.now in
    into-treats s (g.B.Blocks.value c.treat_bytes.new.store) c.args.here (paired c.args.ldterm.now c.args.queues.now) (paired c.treat_bytes.new.ldterm c.treat_bytes.new.queues) c.args.told.now c.treat_bytes.new.told c.work_left-bytes.result c.in-Into.left c.in-Into.acts
    c.requires.stage (c.work_left-bytes.ensures.bytes c.args.queues.now) (kept-some s c.args.ldterm.now.in_work ∙ c.requires.work) c.in-Into.ensures

pub returns-in-Out-clause-does : goal.returns-in-Out-clause-does
returns-in-Out-clause-does g c =
    out-treats (g.B.Blocks.value c.args.store.now) (g.B.Blocks.value c.finish-sent.new.store) c.args.here (paired c.args.ldterm.now c.args.queues.now) (paired c.finish-sent.new.ldterm c.finish-sent.new.queues) c.args.told.now c.treat_bytes.new.told c.work_left-bytes.result c.in-Out.left
    c.in-Out.notes c.finish-sent.result (g.B.Blocks.value c.treat_bytes.new.store) (paired c.treat_bytes.new.ldterm c.treat_bytes.new.queues) c.treat_bytes.new.told c.audit.ensures c.requires.stage (c.work_left-bytes.ensures.bytes c.args.queues.now) c.in-Out.ensures
    (c.finish-sent.ensures.did c.treat_bytes.new.told) c.finish-sent.ensures.blocks

pub returns-in-Into-clause-noted : goal.returns-in-Into-clause-noted
returns-in-Into-clause-noted g c =
    into-short (g.B.Blocks.value c.args.store.now) (g.B.Blocks.value c.treat_bytes.new.store) c.args.here (paired c.args.ldterm.now c.args.queues.now) (paired c.treat_bytes.new.ldterm c.treat_bytes.new.queues) c.args.told.now c.treat_bytes.new.told c.work_left-bytes.result c.in-Into.left
    c.in-Into.acts.notes.items (sent_of c.in-Into.acts.sent) c.requires.stage (c.work_left-bytes.ensures.bytes c.args.queues.now) c.in-Into.ensures

pub returns-in-Out-clause-noted : goal.returns-in-Out-clause-noted
returns-in-Out-clause-noted g c =
    out-short (g.B.Blocks.value c.args.store.now) (g.B.Blocks.value c.treat_bytes.new.store) c.args.here (paired c.args.ldterm.now c.args.queues.now) (paired c.treat_bytes.new.ldterm c.treat_bytes.new.queues) c.args.told.now c.treat_bytes.new.told c.work_left-bytes.result c.in-Out.left
    c.in-Out.notes.items c.requires.stage (c.work_left-bytes.ensures.bytes c.args.queues.now) c.in-Out.ensures
