use Rattle.std.proofs.Common.{[], sym, subst, arith}
use Rattle.strm_frame.specs.Outboxes.{sent_of}
use Rattle.strm_ldterm.specs.Stands.{ldterm_in, paired}
use Rattle.strm_ldterm.specs.Does.{Proceeds}
use Rattle.strm_ldterm.specs.Turns.{ahead, stages_left}
use Rattle.strm_ldterm.proofs.treated_bytes.resume.Goals as goal
use Rattle.strm_ldterm.proofs.Joining.{takes-more}
use Rattle.strm_ldterm.proofs.Struck.{answered-ahead, begun-ahead}

pub returns-in-Some-clause-does : goal.returns-in-Some-clause-does
returns-in-Some-clause-does g c =
    let p = ldterm_in (g.B.Blocks.value c.args.store.now) (paired c.args.ldterm.now c.args.queues.now) in
    subst (Proceeds (g.B.Blocks.value c.args.store.now) (g.B.Blocks.value c.strike.new.store) (paired c.args.ldterm.now c.args.queues.now) (paired c.strike.new.ldterm c.strike.new.queues) 26 c.strike.result.notes.items (sent_of c.strike.result.sent) c.args.told.now c.strike.new.told)
    (begun-ahead c.args.here p c.in-Some.started c.in-Some.byte c.in-Some.ensures.some) c.strike.ensures.does

pub returns-in-None-clause-does : goal.returns-in-None-clause-does
returns-in-None-clause-does g c =
    let s = g.B.Blocks.value c.args.store.now in
    let s' = g.B.Blocks.value c.answer.new.store in
    let p = ldterm_in s (paired c.args.ldterm.now c.args.queues.now) in
    let most = c.in-None.ensures.none in
    let some = c.requires.stage in
    takes-more s s' (paired c.args.ldterm.now c.args.queues.now) (paired c.answer.new.ldterm c.answer.new.queues) 1 26 c.answer.result.items (sent_of c.none.result) c.args.told.now c.answer.new.told (ahead c.args.here (stages_left p.stage) p) (omega arith)
    (subst (λ out. Proceeds s s' (paired c.args.ldterm.now c.args.queues.now) (paired c.answer.new.ldterm c.answer.new.queues) 1 c.answer.result.items out c.args.told.now c.answer.new.told (ahead c.args.here (stages_left p.stage) p)) (sym c.none.ensures)
    (subst (Proceeds s s' (paired c.args.ldterm.now c.args.queues.now) (paired c.answer.new.ldterm c.answer.new.queues) 1 c.answer.result.items [] c.args.told.now c.answer.new.told) (answered-ahead c.args.here p (omega arith)) c.answer.ensures))
