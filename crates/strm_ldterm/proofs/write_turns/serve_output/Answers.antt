-- A message passes whole, or its bytes go out.
use Rattle.strm_ldterm.proofs.Prelude.{ℕ, [], length, sym, ap, subst, ◌∙◌, None, is_some}
use Rattle.strm_ldterm.specs.Prelude.{cells_left}
use Rattle.strm_types.specs.Ldterms as ldterms
use Rattle.strm_ldterm.specs.Bounds.{passes_whole}
use Rattle.strm_ldterm.specs.Called.{ServesAs}
use Rattle.strm_ldterm.specs.Outgone.{output_of}
use Rattle.strm_ldterm.specs.Stands.{ldterm_in, paired}
use Rattle.strm_ldterm.proofs.Bytes.{kept-some}
use Rattle.strm_ldterm.proofs.Joining.{still-kept}
use Rattle.strm_ldterm.proofs.Outgone.{out-serves}
use Rattle.strm_ldterm.proofs.Whole.{whole-is}
use Rattle.strm_ldterm.proofs.WholeOut.{whole-serves-out}
use Rattle.strm_ldterm.proofs.Turned.{down≢up, down-serves, whole-serves}
use Rattle.strm_ldterm.proofs.write_turns.serve_output.Goals as goal

pub goes_down-requires-clause-is : goal.goes_down-requires-clause-is
goes_down-requires-clause-is g c = (c.in-InWork.ensures.works c.args.told.now).held.work

pub goes_down-requires-clause-some : goal.goes_down-requires-clause-some
goes_down-requires-clause-some g c = c.in-InWork.ensures.some

pub post_whole-sent-requires-clause-is : goal.post_whole-sent-requires-clause-is
post_whole-sent-requires-clause-is g c = (c.in-InWork.ensures.works c.args.told.now).held.work

pub post_whole-sent-requires-clause-work : goal.post_whole-sent-requires-clause-work
post_whole-sent-requires-clause-work g c =
    sym (kept-some (g.B.Blocks.value c.begin_output.new.store) c.begin_output.new.ldterm.in_work) ∙ ap (λ (q : ldterms.Discipline ℕ). is_some q.in_work) (c.in-InWork.ensures.works c.args.told.now).state

pub post_whole-sent-requires-clause-some : goal.post_whole-sent-requires-clause-some
post_whole-sent-requires-clause-some g c = c.in-InWork.ensures.some

pub post_whole-sent-requires-clause-short : goal.post_whole-sent-requires-clause-short
post_whole-sent-requires-clause-short g c = c.goes_down.ensures.short c.if-goes_down.true

pub returns-then-goes_down : goal.returns-then-goes_down
returns-then-goes_down g c = λ again.
    let s = g.B.Blocks.value c.args.store.now in
    let s1 = g.B.Blocks.value c.begin_output.new.store in
    let s3 = g.B.Blocks.value c.post_whole-sent.new.store in
    let x = (paired c.args.ldterm.now c.args.queues.now) in
    let x1 = (paired c.begin_output.new.ldterm c.begin_output.new.queues) in
    let x3 = (paired c.post_whole-sent.new.ldterm c.begin_output.new.queues) in
    let told = c.args.told.now in
    let bytes = c.in-InWork.bytes in
    let sent = c.post_whole-sent.result in
    let down = c.if-goes_down.true in
    let whole = c.of_whole-then-goes_down in
    let began = c.in-InWork.ensures.works told in
    let works = began.state in
    let kept = still-kept s s1 x x1 0 [] told told _ c.audit.ensures began c.requires.kept in
    let size = c.in-InWork.ensures.size ∙ sym (ap (λ (q : ldterms.Discipline ℕ). length (cells_left q)) works) in
    let none = ap (λ (q : ldterms.Discipline ℕ). q.gathered) works ∙ c.in-InWork.ensures.none in
    let printed = c.goes_down.ensures.printed c.begin_output.new.queues size down in
    subst (λ v. ServesAs s s3 c.args.here x x3 again v told told) (sym (whole-is whole.result sent bytes whole.ensures.sent whole.ensures.bytes whole.ensures.stopped whole.ensures.again))
    (whole-serves-out s s1 s3 c.args.here x x1 x3 bytes c.in-InWork.band.0 whole.result.acts.notes sent told c.requires.way c.requires.stage c.in-InWork.ensures c.audit.ensures whole.ensures.notes
    began.held c.post_whole-sent.ensures.column (c.goes_down.ensures.short down) size
    printed (c.goes_down.ensures.room down) (c.post_whole-sent.ensures.did c.begin_output.new.queues told began.held kept none size printed) again)

pub post_bytes-left-requires-clause-held : goal.post_bytes-left-requires-clause-held
post_bytes-left-requires-clause-held g c = (c.in-InWork.ensures.works c.args.told.now).held

pub post_bytes-left-requires-clause-kept : goal.post_bytes-left-requires-clause-kept
post_bytes-left-requires-clause-kept g c =
    still-kept (g.B.Blocks.value c.args.store.now) (g.B.Blocks.value c.begin_output.new.store) (paired c.args.ldterm.now c.args.queues.now) (paired c.begin_output.new.ldterm c.begin_output.new.queues) 0 [] c.args.told.now c.args.told.now _ c.audit.ensures
    (c.in-InWork.ensures.works c.args.told.now) c.requires.kept

pub post_bytes-left-requires-clause-work : goal.post_bytes-left-requires-clause-work
post_bytes-left-requires-clause-work g c =
    sym (kept-some (g.B.Blocks.value c.begin_output.new.store) c.begin_output.new.ldterm.in_work) ∙ ap (λ (q : ldterms.Discipline ℕ). is_some q.in_work) (c.in-InWork.ensures.works c.args.told.now).state

pub post_bytes-left-requires-clause-bytes : goal.post_bytes-left-requires-clause-bytes
post_bytes-left-requires-clause-bytes g c = c.in-InWork.ensures.size ∙ sym (ap (λ (q : ldterms.Discipline ℕ). length (cells_left q)) (c.in-InWork.ensures.works c.args.told.now).state)

pub let_go-sent-requires-clause-kept : goal.let_go-sent-requires-clause-kept
let_go-sent-requires-clause-kept g c =
    let s1 = g.B.Blocks.value c.begin_output.new.store in
    let x1 = (paired c.begin_output.new.ldterm c.begin_output.new.queues) in
    let told = c.args.told.now in
    still-kept s1 (g.B.Blocks.value c.post_bytes-left.new.store) x1 (paired c.post_bytes-left.new.ldterm c.begin_output.new.queues) _ [] told c.post_bytes-left.new.told _ c.audit-in-InWork.ensures c.post_bytes-left.ensures.does
    (still-kept (g.B.Blocks.value c.args.store.now) s1 (paired c.args.ldterm.now c.args.queues.now) x1 0 [] told told _ c.audit.ensures (c.in-InWork.ensures.works told) c.requires.kept)

pub returns-in-Whole : goal.returns-in-Whole
returns-in-Whole g c = λ again.
    let s = g.B.Blocks.value c.args.store.now in
    let s1 = g.B.Blocks.value c.begin_output.new.store in
    let x = (paired c.args.ldterm.now c.args.queues.now) in
    let x1 = (paired c.begin_output.new.ldterm c.begin_output.new.queues) in
    let whole = c.in-Whole.ensures in
    whole-serves s s1 c.args.here x x1 again c.args.told.now c.of_whole.result c.in-Whole.passed.sent c.in-Whole.passed.bytes (output_of s s1 c.args.here x x1 None)
    c.of_whole.ensures.notes c.of_whole.ensures.sent c.of_whole.ensures.bytes c.of_whole.ensures.stopped c.of_whole.ensures.again
    (down-serves c.args.here again None (ldterm_in s x) c.requires.way) (whole.passes None c.args.told.now) (whole.size None) (whole.again None) (λ up. absurd (down≢up (sym c.requires.way ∙ up)))
    (ap (λ w. passes_whole w again (ldterm_in s x)) c.requires.way ∙ whole.whole again)

pub returns-else-goes_down : goal.returns-else-goes_down
returns-else-goes_down g c = λ again.
    let s = g.B.Blocks.value c.args.store.now in
    let told = c.post_bytes-left.new.told in
    out-serves s (g.B.Blocks.value c.begin_output.new.store) (g.B.Blocks.value c.post_bytes-left.new.store) (g.B.Blocks.value c.let_go-sent.new.store) c.args.here
    (paired c.args.ldterm.now c.args.queues.now) (paired c.begin_output.new.ldterm c.begin_output.new.queues) (paired c.post_bytes-left.new.ldterm c.begin_output.new.queues) (paired c.let_go-sent.new.ldterm c.let_go-sent.new.queues) c.in-InWork.bytes c.post_bytes-left.result c.in-InWork.band.0 c.new.result c.let_go-sent.result c.args.told.now told
    c.requires.way c.requires.stage c.in-InWork.ensures c.post_bytes-left.ensures (c.let_go-sent.ensures.did told) c.let_go-sent.ensures.blocks c.audit.ensures c.audit-in-InWork.ensures c.new.ensures again
