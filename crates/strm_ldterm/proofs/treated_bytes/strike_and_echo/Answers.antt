use Rattle.strm_ldterm.proofs.Prelude.{ℕ, [], sym, ap, subst, arith}
use Rattle.strm_ldterm.specs.Prelude.{plain, next_stage, strikes, struck}
use Rattle.strm_ldterm.specs.Stands.{ldterm_in, paired}
use Rattle.strm_ldterm.specs.Does.{Proceeds}
use Rattle.strm_ldterm.specs.Echoes.{echo_bytes}
use Rattle.strm_ldterm.specs.Turns.{one_after}
use Rattle.strm_types.specs.Ldterms as ldterms
use Rattle.strm_ldterm.proofs.Bytes.{still-works}
use Rattle.strm_ldterm.proofs.Joining.{still-kept}
use Rattle.strm_ldterm.proofs.Proceeding.{proceeds-staged}
use Rattle.strm_ldterm.proofs.Struck.{echo-chunks, echoed-short, held-lnext, join-room, may-leave, quiet-proceeds, strikes-work, wakes-short}
use Rattle.strm_ldterm.specs.declared.ldterm.Stage.TheVariants as stages
use Rattle.strm_ldterm.proofs.treated_bytes.strike_and_echo.Goals as goal

pub echo-notes-requires-clause-held : goal.echo-notes-requires-clause-held
echo-notes-requires-clause-held g c =
    let s = g.B.Blocks.value c.args.store.now in
    let t = g.B.Blocks.value c.strike_quiet.new.store in
    let x = record (paired c.args.ldterm.now c.args.queues.now) { after_lnext = c.is_lnext-ldterm.result } in
    let y = paired c.strike_quiet.new.ldterm c.args.queues.now in
    let f = c.args.told.now in
    let f' = c.strike_quiet.new.told in
    let did = c.strike_quiet.ensures c.args.queues.now (held-lnext s (paired c.args.ldterm.now c.args.queues.now) c.is_lnext-ldterm.result c.requires.held) c.requires.kept in
    (proceeds-staged s t x y 1 [] f f' _ stages.Between did).held

pub echo-notes-requires-clause-kept : goal.echo-notes-requires-clause-kept
echo-notes-requires-clause-kept g c =
    let s = g.B.Blocks.value c.args.store.now in
    let t = g.B.Blocks.value c.strike_quiet.new.store in
    let x = record (paired c.args.ldterm.now c.args.queues.now) { after_lnext = c.is_lnext-ldterm.result } in
    let y = paired c.strike_quiet.new.ldterm c.args.queues.now in
    let f = c.args.told.now in
    let f' = c.strike_quiet.new.told in
    let did = c.strike_quiet.ensures c.args.queues.now (held-lnext s (paired c.args.ldterm.now c.args.queues.now) c.is_lnext-ldterm.result c.requires.held) c.requires.kept in
    still-kept s t x y 1 [] f f' _ c.audit.ensures did c.requires.kept

-- the line that the key has left
pub echo-notes-requires-clause-room : goal.echo-notes-requires-clause-room
echo-notes-requires-clause-room g c =
    let x = (paired c.args.ldterm.now c.args.queues.now) in
    let did = c.strike_quiet.ensures c.args.queues.now (held-lnext (g.B.Blocks.value c.args.store.now) (paired c.args.ldterm.now c.args.queues.now) c.is_lnext-ldterm.result c.requires.held) c.requires.kept in
    let leaves = may-leave c.args.here c.args.stroke.key c.args.stroke.byte (record (ldterm_in (g.B.Blocks.value c.args.store.now) x) { after_lnext = c.is_lnext-ldterm.result }) c.strike_quiet.new.ldterm.line
    (ap (λ (p : ldterms.Discipline ℕ). p.line) did.state) in
    let few = echo-chunks _ (c.echo_of-plan.ensures.few c.strike_quiet.new.ldterm.line leaves) in
    let m = did.mblks in
    let d = did.dblks in
    let rm = c.requires.room.mblks in
    let rd = c.requires.room.dblks in
    record { mblks = omega arith; dblks = omega arith }

pub echo-notes-requires-clause-work : goal.echo-notes-requires-clause-work
echo-notes-requires-clause-work g c =
    let s = g.B.Blocks.value c.args.store.now in
    let x = record (paired c.args.ldterm.now c.args.queues.now) { after_lnext = c.is_lnext-ldterm.result } in
    let p = ldterm_in s x in
    still-works s (g.B.Blocks.value c.strike_quiet.new.store) x (paired c.strike_quiet.new.ldterm c.args.queues.now) (strikes plain c.args.here c.args.stroke.key c.args.stroke.byte p).state (c.strike_quiet.ensures c.args.queues.now (held-lnext (g.B.Blocks.value c.args.store.now) (paired c.args.ldterm.now c.args.queues.now) c.is_lnext-ldterm.result c.requires.held) c.requires.kept).state
    (strikes-work c.args.here c.args.stroke.key c.args.stroke.byte p) c.requires.work

pub join-requires : goal.join-requires
join-requires g c =
    let q = ldterm_in (g.B.Blocks.value c.strike_quiet.new.store) (record (paired c.strike_quiet.new.ldterm c.args.queues.now) { stage = stages.Between }) in
    join-room c.wakes-woken.result.items c.echo-notes.result.items _ _ (c.wakes-woken.ensures c.args.here) c.echo-notes.ensures.noted
    (wakes-short c.args.here c.args.started (ldterm_in (g.B.Blocks.value c.args.store.now) (paired c.args.ldterm.now c.args.queues.now)))
    (echoed-short c.args.here (echo_bytes c.echo_of-plan.result c.strike_quiet.new.ldterm.line) q)

pub returns : goal.returns
returns g c =
    let x = (paired c.args.ldterm.now c.args.queues.now) in
    let x2 = (paired c.strike_quiet.new.ldterm c.args.queues.now) in
    let s = g.B.Blocks.value c.args.store.now in
    let s2 = g.B.Blocks.value c.strike_quiet.new.store in
    let did = c.strike_quiet.ensures c.args.queues.now (held-lnext (g.B.Blocks.value c.args.store.now) (paired c.args.ldterm.now c.args.queues.now) c.is_lnext-ldterm.result c.requires.held) c.requires.kept in
    let leaves = may-leave c.args.here c.args.stroke.key c.args.stroke.byte (record (ldterm_in s x) { after_lnext = c.is_lnext-ldterm.result }) x2.line (ap (λ (p : ldterms.Discipline ℕ). p.line) did.state) in
    let few = echo-chunks _ (c.echo_of-plan.ensures.few x2.line leaves) in
    subst (λ notes. Proceeds s (g.B.Blocks.value c.echo-notes.new.store) x (paired c.echo-notes.new.ldterm c.echo-notes.new.queues) 25 notes [] c.args.told.now c.echo-notes.new.told (one_after (struck plain c.args.here c.args.started c.args.byte (ldterm_in s x)) (next_stage plain c.args.here 0)))
    (sym c.join.ensures)
    (quiet-proceeds s s2 x x2 c.args.here c.args.started c.args.byte c.args.stroke c.wakes-woken.result.items c.args.told.now c.strike_quiet.new.told c.requires.stroke (c.wakes-woken.ensures c.args.here)
    (g.B.Blocks.value c.echo-notes.new.store) (paired c.echo-notes.new.ldterm c.echo-notes.new.queues) c.is_lnext-ldterm.result c.echo-notes.result.items _ _ c.echo-notes.new.told c.audit.ensures c.is_lnext-ldterm.ensures
    (c.echo_of-plan.ensures.bytes x2.line leaves) did c.echo-notes.ensures few)
