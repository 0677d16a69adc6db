use Rattle.strm_ldterm.proofs.Prelude.{refl, sym, ap, subst, arith}
use Rattle.strm_ldterm.specs.Prelude.{plain, begins_next, cells_left, sent_of, times_sent}
use Rattle.strm_ldterm.specs.ServedLaws.{between-work}
use Rattle.strm_ldterm.specs.Stands.{ldterm_in, stage_in, paired}
use Rattle.strm_ldterm.specs.Does.{Proceeds}
use Rattle.strm_ldterm.specs.Turns.{ahead}
use Rattle.strm_ldterm.proofs.treated_bytes.treat_byte.Goals as goal
use Rattle.strm_ldterm.proofs.Bytes.{still-works}
use Rattle.strm_ldterm.proofs.RunsDone.{left-works}
use Rattle.strm_ldterm.proofs.Struck.{some-left}
use Rattle.strm_ldterm.proofs.Treated.{begun-left, byte-goes-on, byte-starts, few-leaves, few-needs}

pub returns-then-not-is_empty-clause-does : goal.returns-then-not-is_empty-clause-does
returns-then-not-is_empty-clause-does g c =
    let s = g.B.Blocks.value c.args.store.now in
    let s1 = g.B.Blocks.value c.begin-sent.new.store in
    let sent = sent_of c.begin-sent.result in
    subst (λ notes. Proceeds s s1 (paired c.args.ldterm.now c.args.queues.now) (paired c.begin-sent.new.ldterm c.args.queues.now) 27 notes sent c.args.told.now c.args.told.now (ahead c.args.here 3 (ldterm_in s (paired c.args.ldterm.now c.args.queues.now)))) (sym c.new.ensures)
    (byte-starts s s1 (paired c.args.ldterm.now c.args.queues.now) (paired c.begin-sent.new.ldterm c.args.queues.now) c.args.here sent c.args.told.now c.requires.stage (c.begin-sent.ensures c.args.queues.now c.args.told.now c.requires.held c.requires.kept) (some-left sent c.is_empty.result c.if-not-is_empty.true c.is_empty.ensures))

pub returns-then-not-is_empty-clause-leaves : goal.returns-then-not-is_empty-clause-leaves
returns-then-not-is_empty-clause-leaves g c some =
    let did = c.begin-sent.ensures c.args.queues.now c.args.told.now c.requires.held c.requires.kept in
    let m = did.mblks in
    let d = did.dblks in
    let rm = c.requires.room.mblks in
    let rd = c.requires.room.dblks in
    let few = few-leaves (stage_in c.begin-sent.new.ldterm.stage) in
    let two = begun-left (g.B.Blocks.value c.args.store.now) (g.B.Blocks.value c.begin-sent.new.store) (paired c.args.ldterm.now c.args.queues.now) (paired c.begin-sent.new.ldterm c.args.queues.now) c.args.here (sent_of c.begin-sent.result) c.args.told.now c.requires.stage did c.requires.some in
    (record { mblks = omega arith; dblks = omega arith }, omega arith)

pub resume-requires-clause-held : goal.resume-requires-clause-held
resume-requires-clause-held g c = (c.begin-sent.ensures c.args.queues.now c.args.told.now c.requires.held c.requires.kept).held

pub resume-requires-clause-kept : goal.resume-requires-clause-kept
unfolding times_sent
resume-requires-clause-kept g c =
    let did = c.begin-sent.ensures c.args.queues.now c.args.told.now c.requires.held c.requires.kept in
    let quiet = c.if-not-is_empty.ensures.0 refl in
    record { apart = λ i. (let e = ap (times_sent i) quiet in let k = did.hands.counts i in let r = c.requires.kept.apart i in omega arith) }

pub resume-requires-clause-work : goal.resume-requires-clause-work
resume-requires-clause-work g c =
    let s = g.B.Blocks.value c.args.store.now in
    let x = (paired c.args.ldterm.now c.args.queues.now) in
    let p = ldterm_in s x in
    still-works s (g.B.Blocks.value c.begin-sent.new.store) x (paired c.begin-sent.new.ldterm c.args.queues.now) (begins_next plain c.args.here (cells_left p) p).state (c.begin-sent.ensures c.args.queues.now c.args.told.now c.requires.held c.requires.kept).state
    (between-work plain c.args.here (cells_left p) p) (left-works s x c.requires.some)

pub resume-requires-clause-room : goal.resume-requires-clause-room
resume-requires-clause-room g c =
    let did = c.begin-sent.ensures c.args.queues.now c.args.told.now c.requires.held c.requires.kept in
    let m = did.mblks in
    let d = did.dblks in
    let rm = c.requires.room.mblks in
    let rd = c.requires.room.dblks in
    let few = few-needs (stage_in c.begin-sent.new.ldterm.stage) in
    record { mblks = omega arith; dblks = omega arith }

pub resume-requires-clause-stage : goal.resume-requires-clause-stage
resume-requires-clause-stage g c =
    let two = begun-left (g.B.Blocks.value c.args.store.now) (g.B.Blocks.value c.begin-sent.new.store) (paired c.args.ldterm.now c.args.queues.now) (paired c.begin-sent.new.ldterm c.args.queues.now) c.args.here (sent_of c.begin-sent.result) c.args.told.now
    c.requires.stage (c.begin-sent.ensures c.args.queues.now c.args.told.now c.requires.held c.requires.kept) c.requires.some in
    omega arith

pub returns-clause-does : goal.returns-clause-does
returns-clause-does g c =
    byte-goes-on (g.B.Blocks.value c.args.store.now) (g.B.Blocks.value c.begin-sent.new.store) (paired c.args.ldterm.now c.args.queues.now) (paired c.begin-sent.new.ldterm c.args.queues.now) c.args.here (sent_of c.begin-sent.result) c.args.told.now
    c.requires.stage (c.begin-sent.ensures c.args.queues.now c.args.told.now c.requires.held c.requires.kept) c.requires.some
    (g.B.Blocks.value c.resume.new.store) (paired c.resume.new.ldterm c.resume.new.queues) c.resume.result.notes.items (sent_of c.resume.result.sent) c.resume.new.told c.audit.ensures (c.if-not-is_empty.ensures.0 refl) c.resume.ensures.does
