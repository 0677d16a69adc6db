use Rattle.strm_ldterm.proofs.Prelude.{refl, sym, subst}
use Rattle.strm_ldterm.specs.Prelude.{plain, next_stage, struck, sent_of}
use Rattle.strm_ldterm.specs.ServedLaws.{struck-work}
use Rattle.strm_ldterm.specs.Stands.{ldterm_in, paired}
use Rattle.strm_ldterm.specs.Does.{Proceeds}
use Rattle.strm_ldterm.specs.Turns.{one_after}
use Rattle.strm_ldterm.proofs.Bytes.{still-works}
use Rattle.strm_ldterm.proofs.treated_bytes.strike.Goals as goal
use Rattle.strm_ldterm.proofs.Struck.{join-room, next-short, sends-first, some-left, then-answers, wakes-short}

pub answer-echoed-requires-clause-work : goal.answer-echoed-requires-clause-work
answer-echoed-requires-clause-work g c =
    let s = g.B.Blocks.value c.args.store.now in
    let x = (paired c.args.ldterm.now c.args.queues.now) in
    let first = c.strike_and_send-acts in
    still-works s (g.B.Blocks.value first.new.store) x (paired first.new.ldterm c.args.queues.now) (struck plain c.args.here c.args.started c.args.byte (ldterm_in s x)).state first.ensures.does.state
    (struck-work plain c.args.here c.args.started c.args.byte (ldterm_in s x)) c.requires.work

pub join-requires : goal.join-requires
join-requires g c =
    let p = ldterm_in (g.B.Blocks.value c.args.store.now) (paired c.args.ldterm.now c.args.queues.now) in
    join-room c.strike_and_send-acts.result.notes.items c.answer-echoed.result.items _ _ c.strike_and_send-acts.ensures.does.noted c.answer-echoed.ensures.noted
    (wakes-short c.args.here c.args.started p)
    (next-short c.args.here (ldterm_in (g.B.Blocks.value c.strike_and_send-acts.new.store) (paired c.strike_and_send-acts.new.ldterm c.args.queues.now)) c.strike_and_send-acts.ensures.stage)

pub returns-then-is_empty-clause-does : goal.returns-then-is_empty-clause-does
returns-then-is_empty-clause-does g c =
    let s = g.B.Blocks.value c.args.store.now in
    let x = (paired c.args.ldterm.now c.args.queues.now) in
    let first = c.strike_and_send-acts in
    let struck_here = struck plain c.args.here c.args.started c.args.byte (ldterm_in s x) in
    let next = next_stage plain c.args.here 0 in
    subst (λ notes. Proceeds s (g.B.Blocks.value c.answer-echoed.new.store) x (paired c.answer-echoed.new.ldterm c.answer-echoed.new.queues) 26 notes (sent_of first.result.sent) c.args.told.now c.answer-echoed.new.told (one_after struck_here next)) (sym c.join.ensures)
    (then-answers s (g.B.Blocks.value first.new.store) x (paired first.new.ldterm c.args.queues.now) first.result.notes.items (sent_of first.result.sent) c.args.told.now first.new.told struck_here first.ensures.does next
    (g.B.Blocks.value c.answer-echoed.new.store) (paired c.answer-echoed.new.ldterm c.answer-echoed.new.queues) c.answer-echoed.result.items c.answer-echoed.new.told c.audit.ensures (c.if-is_empty.ensures.0 refl) c.answer-echoed.ensures)

pub returns-else-is_empty-clause-does : goal.returns-else-is_empty-clause-does
returns-else-is_empty-clause-does g c =
    let s = g.B.Blocks.value c.args.store.now in
    let first = c.strike_and_send-acts in
    sends-first s (g.B.Blocks.value first.new.store) (paired c.args.ldterm.now c.args.queues.now) (paired first.new.ldterm c.args.queues.now) first.result.notes.items (sent_of first.result.sent) c.args.told.now first.new.told
    (struck plain c.args.here c.args.started c.args.byte (ldterm_in s (paired c.args.ldterm.now c.args.queues.now))) first.ensures.does (next_stage plain c.args.here 0)
    (some-left (sent_of first.result.sent) c.is_empty.result c.if-is_empty.false c.is_empty.ensures)
