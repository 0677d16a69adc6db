use Rattle.strm_ldterm.proofs.Prelude.{◌-◌, [], inl, refl, sym, subst, ◌∙◌, arith}
use Rattle.strm_ldterm.specs.Prelude.{sent_of, STOP_BLOCKS, least_free}
use Rattle.strm_ldterm.specs.Called.{RunsInto}
use Rattle.strm_ldterm.specs.Stands.{paired}
use Rattle.strm_ldterm.proofs.Bytes.{Ran, are-many, begun-one, lower, notes-fit, ran-left, ran-next, ran-none, ran-run, ran-stage, runs-into, some-went}
use Rattle.strm_ldterm.proofs.Joining.{still-kept, stays-so}
use Rattle.strm_ldterm.proofs.Struck.{some-left}
use Rattle.strm_ldterm.proofs.service_calls.treat_bytes.Goals as goal
use Rattle.strm_ldterm.proofs.service_calls.treat_bytes.Goals.{then-loop-left-test+else-not-are_few, else-loop-left-test, then-left-eq0-via-then-left-eq0, then-left-eq0-via-else-left-eq0+then-are_few}

pub loop-left-init : goal.loop-left-init
loop-left-init g c =
    let s = g.B.Blocks.value c.args.store.now in
    subst (λ notes. Ran s s c.args.here (paired c.args.ldterm.now c.args.queues.now) (paired c.args.ldterm.now c.args.queues.now) c.args.bytes c.args.bytes notes c.args.told.now c.args.told.now) (sym c.new-notes.ensures)
    (ran-none s c.args.here (paired c.args.ldterm.now c.args.queues.now) c.args.bytes c.args.told.now (stays-so s (paired c.args.ldterm.now c.args.queues.now) c.args.told.now c.requires.held) c.requires.room)

pub treat_run-ran-requires-clause-held : goal.treat_run-ran-requires-clause-held
treat_run-ran-requires-clause-held g c = c.loop-left.invariant.does.held

pub treat_run-ran-requires-clause-kept : goal.treat_run-ran-requires-clause-kept
treat_run-ran-requires-clause-kept g c =
    still-kept (g.B.Blocks.value c.args.store.now) (g.B.Blocks.value c.loop-left.store) (paired c.args.ldterm.now c.args.queues.now) (paired c.loop-left.ldterm c.loop-left.queues) _ c.loop-left.notes.items c.args.told.now c.loop-left.told _ c.audit.ensures
    c.loop-left.invariant.does c.requires.kept

pub treat_run-ran-requires-clause-stage : goal.treat_run-ran-requires-clause-stage
treat_run-ran-requires-clause-stage g c =
    ran-stage (g.B.Blocks.value c.args.store.now) (g.B.Blocks.value c.loop-left.store) (paired c.args.ldterm.now c.args.queues.now) (paired c.loop-left.ldterm c.loop-left.queues) c.args.here c.args.bytes c.loop-left.left c.loop-left.notes.items c.args.told.now c.loop-left.told
    c.requires.stage c.requires.bytes c.loop-left.invariant

pub join-notes-requires : goal.join-notes-requires
join-notes-requires g c =
    let l = ran-left (g.B.Blocks.value c.args.store.now) (g.B.Blocks.value c.loop-left.store) (paired c.args.ldterm.now c.args.queues.now) (paired c.loop-left.ldterm c.loop-left.queues) c.args.here c.args.bytes c.loop-left.left c.loop-left.notes.items c.args.told.now c.loop-left.told
    c.requires.stage c.requires.bytes c.loop-left.invariant in
    let within = c.treat_run-ran.ensures.within in
    notes-fit (g.B.Blocks.value c.args.store.now) (g.B.Blocks.value c.loop-left.store) (paired c.args.ldterm.now c.args.queues.now) (paired c.loop-left.ldterm c.loop-left.queues) c.args.here c.args.bytes c.loop-left.left c.loop-left.notes.items c.args.told.now c.loop-left.told
    c.requires.stage c.requires.bytes c.loop-left.invariant
    (g.B.Blocks.value c.treat_run-ran.new.store) (paired c.treat_run-ran.new.ldterm c.treat_run-ran.new.queues) 2 c.treat_run-ran.result.bytes c.treat_run-ran.result.notes.items [] c.treat_run-ran.new.told (omega arith) c.treat_run-ran.ensures.does

pub overflow_sub-left : goal.overflow_sub-left
overflow_sub-left g c =
    let l = ran-left (g.B.Blocks.value c.args.store.now) (g.B.Blocks.value c.loop-left.store) (paired c.args.ldterm.now c.args.queues.now) (paired c.loop-left.ldterm c.loop-left.queues) c.args.here c.args.bytes c.loop-left.left c.loop-left.notes.items c.args.told.now c.loop-left.told
    c.requires.stage c.requires.bytes c.loop-left.invariant in
    let within = c.treat_run-ran.ensures.within in
    omega arith

pub returns-then-left-eq0 : goal.returns-then-left-eq0
returns-then-left-eq0 g c =
    let r = (ran-run (g.B.Blocks.value c.args.store.now) (g.B.Blocks.value c.loop-left.store) (paired c.args.ldterm.now c.args.queues.now) (paired c.loop-left.ldterm c.loop-left.queues) c.args.here c.args.bytes c.loop-left.left c.loop-left.notes.items c.args.told.now c.loop-left.told
    c.requires.stage c.requires.bytes c.loop-left.invariant (g.B.Blocks.value c.treat_run-ran.new.store) (paired c.treat_run-ran.new.ldterm c.treat_run-ran.new.queues) c.treat_run-ran.result.bytes c.treat_run-ran.result.notes.items c.join-notes.result.items c.treat_run-ran.new.told
    c.audit.ensures c.treat_run-ran.ensures.within c.join-notes.ensures c.treat_run-ran.ensures.does (are-many (g.B.Blocks.value c.loop-left.store) (sym c.are_few.ensures ∙ c.if-not-are_few.true)) c.treat_run-ran.ensures.begun c.treat_run-ran.ensures.many) in
    record {
      fewer = r.fewer;
      does = r.does;
      begun = r.begun;
      room = r.room;
      stops = elim c.then-left-eq0.branch [
        | then-left-eq0-via-then-left-eq0 w ↦ λ some. absurd (let none = w.if-left-eq0.true in omega arith)
        | then-left-eq0-via-else-left-eq0+then-are_few w ↦ λ some. lower (least_free (g.B.Blocks.value c.treat_run-ran.new.store)) STOP_BLOCKS (sym w.are_few-else-left-eq0.ensures ∙ w.if-are_few.true)
      ];
      some = elim c.then-left-eq0.branch [
        | then-left-eq0-via-then-left-eq0 w ↦ λ some many. (let none = w.if-left-eq0.true in omega (arith, none, some))
        | then-left-eq0-via-else-left-eq0+then-are_few w ↦ λ some many. some-went (g.B.Blocks.value c.args.store.now) (g.B.Blocks.value c.treat_run-ran.new.store) c.args.bytes (c.loop-left.left - c.treat_run-ran.result.bytes) r.some
            (lower (least_free (g.B.Blocks.value c.treat_run-ran.new.store)) STOP_BLOCKS (sym w.are_few-else-left-eq0.ensures ∙ w.if-are_few.true)) many
      ];
    }

pub treat_byte-more-requires-clause-held : goal.treat_byte-more-requires-clause-held
treat_byte-more-requires-clause-held g c =
    let r = (ran-run (g.B.Blocks.value c.args.store.now) (g.B.Blocks.value c.loop-left.store) (paired c.args.ldterm.now c.args.queues.now) (paired c.loop-left.ldterm c.loop-left.queues) c.args.here c.args.bytes c.loop-left.left c.loop-left.notes.items c.args.told.now c.loop-left.told
    c.requires.stage c.requires.bytes c.loop-left.invariant (g.B.Blocks.value c.treat_run-ran.new.store) (paired c.treat_run-ran.new.ldterm c.treat_run-ran.new.queues) c.treat_run-ran.result.bytes c.treat_run-ran.result.notes.items c.join-notes.result.items c.treat_run-ran.new.told
    c.audit.ensures c.treat_run-ran.ensures.within c.join-notes.ensures c.treat_run-ran.ensures.does (are-many (g.B.Blocks.value c.loop-left.store) (sym c.are_few.ensures ∙ c.if-not-are_few.true)) c.treat_run-ran.ensures.begun c.treat_run-ran.ensures.many) in
    r.does.held

pub treat_byte-more-requires-clause-kept : goal.treat_byte-more-requires-clause-kept
treat_byte-more-requires-clause-kept g c =
    let r = (ran-run (g.B.Blocks.value c.args.store.now) (g.B.Blocks.value c.loop-left.store) (paired c.args.ldterm.now c.args.queues.now) (paired c.loop-left.ldterm c.loop-left.queues) c.args.here c.args.bytes c.loop-left.left c.loop-left.notes.items c.args.told.now c.loop-left.told
    c.requires.stage c.requires.bytes c.loop-left.invariant (g.B.Blocks.value c.treat_run-ran.new.store) (paired c.treat_run-ran.new.ldterm c.treat_run-ran.new.queues) c.treat_run-ran.result.bytes c.treat_run-ran.result.notes.items c.join-notes.result.items c.treat_run-ran.new.told
    c.audit.ensures c.treat_run-ran.ensures.within c.join-notes.ensures c.treat_run-ran.ensures.does (are-many (g.B.Blocks.value c.loop-left.store) (sym c.are_few.ensures ∙ c.if-not-are_few.true)) c.treat_run-ran.ensures.begun c.treat_run-ran.ensures.many) in
    still-kept (g.B.Blocks.value c.args.store.now) (g.B.Blocks.value c.treat_run-ran.new.store) (paired c.args.ldterm.now c.args.queues.now) (paired c.treat_run-ran.new.ldterm c.treat_run-ran.new.queues) _ c.join-notes.result.items c.args.told.now c.treat_run-ran.new.told _ c.audit-in-loop-left.ensures
    r.does c.requires.kept

pub treat_byte-more-requires-clause-stage : goal.treat_byte-more-requires-clause-stage
treat_byte-more-requires-clause-stage g c =
    let r = (ran-run (g.B.Blocks.value c.args.store.now) (g.B.Blocks.value c.loop-left.store) (paired c.args.ldterm.now c.args.queues.now) (paired c.loop-left.ldterm c.loop-left.queues) c.args.here c.args.bytes c.loop-left.left c.loop-left.notes.items c.args.told.now c.loop-left.told
    c.requires.stage c.requires.bytes c.loop-left.invariant (g.B.Blocks.value c.treat_run-ran.new.store) (paired c.treat_run-ran.new.ldterm c.treat_run-ran.new.queues) c.treat_run-ran.result.bytes c.treat_run-ran.result.notes.items c.join-notes.result.items c.treat_run-ran.new.told
    c.audit.ensures c.treat_run-ran.ensures.within c.join-notes.ensures c.treat_run-ran.ensures.does (are-many (g.B.Blocks.value c.loop-left.store) (sym c.are_few.ensures ∙ c.if-not-are_few.true)) c.treat_run-ran.ensures.begun c.treat_run-ran.ensures.many) in
    ran-stage (g.B.Blocks.value c.args.store.now) (g.B.Blocks.value c.treat_run-ran.new.store) (paired c.args.ldterm.now c.args.queues.now) (paired c.treat_run-ran.new.ldterm c.treat_run-ran.new.queues) c.args.here c.args.bytes (c.loop-left.left - c.treat_run-ran.result.bytes) c.join-notes.result.items c.args.told.now c.treat_run-ran.new.told
    c.requires.stage c.requires.bytes r

pub treat_byte-more-requires-clause-some : goal.treat_byte-more-requires-clause-some
treat_byte-more-requires-clause-some g c =
    let r = (ran-run (g.B.Blocks.value c.args.store.now) (g.B.Blocks.value c.loop-left.store) (paired c.args.ldterm.now c.args.queues.now) (paired c.loop-left.ldterm c.loop-left.queues) c.args.here c.args.bytes c.loop-left.left c.loop-left.notes.items c.args.told.now c.loop-left.told
    c.requires.stage c.requires.bytes c.loop-left.invariant (g.B.Blocks.value c.treat_run-ran.new.store) (paired c.treat_run-ran.new.ldterm c.treat_run-ran.new.queues) c.treat_run-ran.result.bytes c.treat_run-ran.result.notes.items c.join-notes.result.items c.treat_run-ran.new.told
    c.audit.ensures c.treat_run-ran.ensures.within c.join-notes.ensures c.treat_run-ran.ensures.does (are-many (g.B.Blocks.value c.loop-left.store) (sym c.are_few.ensures ∙ c.if-not-are_few.true)) c.treat_run-ran.ensures.begun c.treat_run-ran.ensures.many) in
    let l = ran-left (g.B.Blocks.value c.args.store.now) (g.B.Blocks.value c.treat_run-ran.new.store) (paired c.args.ldterm.now c.args.queues.now) (paired c.treat_run-ran.new.ldterm c.treat_run-ran.new.queues) c.args.here c.args.bytes (c.loop-left.left - c.treat_run-ran.result.bytes) c.join-notes.result.items c.args.told.now c.treat_run-ran.new.told
    c.requires.stage c.requires.bytes r in
    let some = c.if-left-eq0.false in
    omega arith

pub join-notes-requires-in-loop-left : goal.join-notes-requires-in-loop-left
join-notes-requires-in-loop-left g c =
    let r = (ran-run (g.B.Blocks.value c.args.store.now) (g.B.Blocks.value c.loop-left.store) (paired c.args.ldterm.now c.args.queues.now) (paired c.loop-left.ldterm c.loop-left.queues) c.args.here c.args.bytes c.loop-left.left c.loop-left.notes.items c.args.told.now c.loop-left.told
    c.requires.stage c.requires.bytes c.loop-left.invariant (g.B.Blocks.value c.treat_run-ran.new.store) (paired c.treat_run-ran.new.ldterm c.treat_run-ran.new.queues) c.treat_run-ran.result.bytes c.treat_run-ran.result.notes.items c.join-notes.result.items c.treat_run-ran.new.told
    c.audit.ensures c.treat_run-ran.ensures.within c.join-notes.ensures c.treat_run-ran.ensures.does (are-many (g.B.Blocks.value c.loop-left.store) (sym c.are_few.ensures ∙ c.if-not-are_few.true)) c.treat_run-ran.ensures.begun c.treat_run-ran.ensures.many) in
    let some = c.if-left-eq0.false in
    notes-fit (g.B.Blocks.value c.args.store.now) (g.B.Blocks.value c.treat_run-ran.new.store) (paired c.args.ldterm.now c.args.queues.now) (paired c.treat_run-ran.new.ldterm c.treat_run-ran.new.queues) c.args.here c.args.bytes (c.loop-left.left - c.treat_run-ran.result.bytes) c.join-notes.result.items c.args.told.now c.treat_run-ran.new.told
    c.requires.stage c.requires.bytes r
    (g.B.Blocks.value c.treat_byte-more.new.store) (paired c.treat_byte-more.new.ldterm c.treat_byte-more.new.queues) 27 1 c.treat_byte-more.result.notes.items (sent_of c.treat_byte-more.result.sent) c.treat_byte-more.new.told (omega arith) c.treat_byte-more.ensures.does

pub returns-then-not-is_empty : goal.returns-then-not-is_empty
returns-then-not-is_empty g c =
    let r = (ran-run (g.B.Blocks.value c.args.store.now) (g.B.Blocks.value c.loop-left.store) (paired c.args.ldterm.now c.args.queues.now) (paired c.loop-left.ldterm c.loop-left.queues) c.args.here c.args.bytes c.loop-left.left c.loop-left.notes.items c.args.told.now c.loop-left.told
    c.requires.stage c.requires.bytes c.loop-left.invariant (g.B.Blocks.value c.treat_run-ran.new.store) (paired c.treat_run-ran.new.ldterm c.treat_run-ran.new.queues) c.treat_run-ran.result.bytes c.treat_run-ran.result.notes.items c.join-notes.result.items c.treat_run-ran.new.told
    c.audit.ensures c.treat_run-ran.ensures.within c.join-notes.ensures c.treat_run-ran.ensures.does (are-many (g.B.Blocks.value c.loop-left.store) (sym c.are_few.ensures ∙ c.if-not-are_few.true)) c.treat_run-ran.ensures.begun c.treat_run-ran.ensures.many) in
    let sent = sent_of c.treat_byte-more.result.sent in
    let some = some-left sent c.is_empty.result c.if-not-is_empty.true c.is_empty.ensures in
    let more = c.if-left-eq0.false in
    subst (λ notes. RunsInto (g.B.Blocks.value c.args.store.now) (g.B.Blocks.value c.treat_byte-more.new.store) c.args.here (paired c.args.ldterm.now c.args.queues.now) (paired c.treat_byte-more.new.ldterm c.treat_byte-more.new.queues) c.args.bytes (c.loop-left.left - c.treat_run-ran.result.bytes) notes sent c.args.told.now c.treat_byte-more.new.told)
    (sym c.join-notes-in-loop-left.ensures)
    (runs-into (g.B.Blocks.value c.args.store.now) (g.B.Blocks.value c.treat_run-ran.new.store) (paired c.args.ldterm.now c.args.queues.now) (paired c.treat_run-ran.new.ldterm c.treat_run-ran.new.queues) c.args.here c.args.bytes (c.loop-left.left - c.treat_run-ran.result.bytes) c.join-notes.result.items c.args.told.now c.treat_run-ran.new.told
    c.requires.stage c.requires.bytes r
    (g.B.Blocks.value c.treat_byte-more.new.store) (paired c.treat_byte-more.new.ldterm c.treat_byte-more.new.queues) c.treat_byte-more.result.notes.items (sent_of c.treat_byte-more.result.sent) c.treat_byte-more.new.told (omega arith) (are-many (g.B.Blocks.value c.treat_run-ran.new.store) (sym c.are_few-else-left-eq0.ensures ∙ c.if-are_few.false)) c.treat_byte-more.ensures.does c.audit-in-loop-left.ensures some (c.treat_byte-more.ensures.leaves some))

pub loop-left-preserved : goal.loop-left-preserved
loop-left-preserved g c =
    let r = (ran-run (g.B.Blocks.value c.args.store.now) (g.B.Blocks.value c.loop-left.store) (paired c.args.ldterm.now c.args.queues.now) (paired c.loop-left.ldterm c.loop-left.queues) c.args.here c.args.bytes c.loop-left.left c.loop-left.notes.items c.args.told.now c.loop-left.told
    c.requires.stage c.requires.bytes c.loop-left.invariant (g.B.Blocks.value c.treat_run-ran.new.store) (paired c.treat_run-ran.new.ldterm c.treat_run-ran.new.queues) c.treat_run-ran.result.bytes c.treat_run-ran.result.notes.items c.join-notes.result.items c.treat_run-ran.new.told
    c.audit.ensures c.treat_run-ran.ensures.within c.join-notes.ensures c.treat_run-ran.ensures.does (are-many (g.B.Blocks.value c.loop-left.store) (sym c.are_few.ensures ∙ c.if-not-are_few.true)) c.treat_run-ran.ensures.begun c.treat_run-ran.ensures.many) in
    let more = c.if-left-eq0.false in
    let many = are-many (g.B.Blocks.value c.treat_run-ran.new.store) (sym c.are_few-else-left-eq0.ensures ∙ c.if-are_few.false) in
    subst (λ notes. Ran (g.B.Blocks.value c.args.store.now) (g.B.Blocks.value c.treat_byte-more.new.store) c.args.here (paired c.args.ldterm.now c.args.queues.now) (paired c.treat_byte-more.new.ldterm c.treat_byte-more.new.queues) c.args.bytes ((c.loop-left.left - c.treat_run-ran.result.bytes) - 1) notes c.args.told.now c.treat_byte-more.new.told)
    (sym c.join-notes-in-loop-left.ensures)
    (ran-next (g.B.Blocks.value c.args.store.now) (g.B.Blocks.value c.treat_run-ran.new.store) (paired c.args.ldterm.now c.args.queues.now) (paired c.treat_run-ran.new.ldterm c.treat_run-ran.new.queues) c.args.here c.args.bytes (c.loop-left.left - c.treat_run-ran.result.bytes) c.join-notes.result.items c.args.told.now c.treat_run-ran.new.told
    c.requires.stage c.requires.bytes r
    (g.B.Blocks.value c.treat_byte-more.new.store) (paired c.treat_byte-more.new.ldterm c.treat_byte-more.new.queues) 27 1 c.treat_byte-more.result.notes.items (sent_of c.treat_byte-more.result.sent) c.treat_byte-more.new.told (omega arith) c.treat_byte-more.ensures.does c.audit-in-loop-left.ensures
    (c.if-not-is_empty.ensures.0 refl) many (omega arith)
    (begun-one (g.B.Blocks.value c.args.store.now) (g.B.Blocks.value c.treat_run-ran.new.store) (paired c.args.ldterm.now c.args.queues.now) (paired c.treat_run-ran.new.ldterm c.treat_run-ran.new.queues) c.args.here c.args.bytes (c.loop-left.left - c.treat_run-ran.result.bytes) c.join-notes.result.items c.args.told.now c.treat_run-ran.new.told
    c.requires.stage c.requires.bytes r many)
    (inl (omega arith)))

pub returns : goal.returns
returns g c = record {
  fewer = c.loop-left.invariant.fewer;
  does = c.loop-left.invariant.does;
  begun = c.loop-left.invariant.begun;
  room = c.loop-left.invariant.room;
  stops = elim c.loop-left-test.branch [
    | then-loop-left-test+else-not-are_few w ↦ λ some. lower (least_free (g.B.Blocks.value c.loop-left.store)) STOP_BLOCKS (sym w.are_few.ensures ∙ w.if-not-are_few.false)
    | else-loop-left-test w ↦ λ some. absurd (let none = w.loop-left-test.false in omega arith)
  ];
  some = elim c.loop-left-test.branch [
    | then-loop-left-test+else-not-are_few w ↦ λ some many. some-went (g.B.Blocks.value c.args.store.now) (g.B.Blocks.value c.loop-left.store) c.args.bytes c.loop-left.left c.loop-left.invariant.some
        (lower (least_free (g.B.Blocks.value c.loop-left.store)) STOP_BLOCKS (sym w.are_few.ensures ∙ w.if-not-are_few.false)) many
    | else-loop-left-test w ↦ λ some many. (let none = w.loop-left-test.false in omega (arith, none, some))
  ];
}
