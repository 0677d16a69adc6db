-- What is taken is typed, and then echoed.
use Rattle.strm_ldterm.proofs.Prelude.{◌≡◌, ◌≤◌, ◌<◌, ◌++◌, true, [], length, drop, sym, ap, subst, ◌∙◌, arith, nat_tests}
use Rattle.strm_ldterm.specs.Prelude.{cells_left, with_left, sends}
use Rattle.std.specs.List.{AllByRecursion}
use Rattle.strm_ldterm.specs.Does.{Proceeds}
use Rattle.strm_ldterm.specs.PlainRuns.{is_plain}
use Rattle.strm_ldterm.specs.Stands.{ldterm_in, paired}
use Rattle.strm_ldterm.proofs.Joining.{still-kept}
use Rattle.strm_ldterm.proofs.RunsDone.{all-plain, front-short, left-works, line-room, no-run, run-begun, run-treated, run-works}
use Rattle.strm_ldterm.proofs.Skipped.{no-bytes}
use Rattle.strm_ldterm.proofs.plain_runs.treat_run.Goals as goal

pub returns-then-is_empty-clause-does : goal.returns-then-is_empty-clause-does
returns-then-is_empty-clause-does g c =
    let none : length c.as_slice-run.result.now ≡ 0 = (let e = sym c.is_empty.ensures ∙ c.if-is_empty.true in grind (arith, nat_tests)) in
    no-run (g.B.Blocks.value c.args.store.now) (g.B.Blocks.value c.take_front.new.store) (paired c.args.ldterm.now c.args.queues.now) (paired c.take_front.new.ldterm c.args.queues.now) c.args.here c.take_front.new.run.items c.args.told.now
    c.requires.held (c.take_front.ensures.did c.args.queues.now c.args.told.now c.requires.held c.requires.kept) c.new.result.items (sym c.as_slice-run.ensures.value ∙ no-bytes c.as_slice-run.result.now none) c.new.ensures

pub type_run-requires-clause-gathers : goal.type_run-requires-clause-gathers
type_run-requires-clause-gathers g c = (c.take_front.ensures.did c.args.queues.now c.args.told.now c.requires.held c.requires.kept).held.gathers

pub type_run-requires-clause-line : goal.type_run-requires-clause-line
type_run-requires-clause-line g c =
    let run = c.as_slice-run.result.now in
    let t = c.args.told.now in
    let front = c.take_front in
    let most = c.run_room-most.result in
    let same = ap length c.as_slice-run.ensures.value in
    let some : 0 < length run = (let e = sym c.is_empty.ensures ∙ c.if-is_empty.false in grind (arith, nat_tests)) in
    let few : length front.new.run.items ≤ most = front.ensures.few in
    λ lines. omega (
      arith,
      same,
      line-room (g.B.Blocks.value c.args.store.now) (g.B.Blocks.value front.new.store) (paired c.args.ldterm.now c.args.queues.now) (paired front.new.ldterm c.args.queues.now) c.args.here front.new.run.items t c.requires.held (front.ensures.did c.args.queues.now t c.requires.held c.requires.kept)
          most few (c.run_room-most.ensures.may (omega arith)) lines,
    )

pub type_run-requires-clause-room : goal.type_run-requires-clause-room
type_run-requires-clause-room g c =
    let did = c.take_front.ensures.did c.args.queues.now c.args.told.now c.requires.held c.requires.kept in
    record { mblks = (let a = did.mblks in let r = c.requires.room.mblks in omega arith); dblks = (let a = did.dblks in let r = c.requires.room.dblks in omega arith) }

pub echo_run-notes-requires-clause-held : goal.echo_run-notes-requires-clause-held
echo_run-notes-requires-clause-held g c =
    let did = c.take_front.ensures.did c.args.queues.now c.args.told.now c.requires.held c.requires.kept in
    let kept = still-kept (g.B.Blocks.value c.args.store.now) (g.B.Blocks.value c.take_front.new.store) (paired c.args.ldterm.now c.args.queues.now) (paired c.take_front.new.ldterm c.args.queues.now) 0 [] c.args.told.now c.args.told.now _ c.audit.ensures did c.requires.kept in
    let typed = c.type_run.ensures c.args.queues.now c.args.told.now did.held kept in
    typed.held

pub echo_run-notes-requires-clause-kept : goal.echo_run-notes-requires-clause-kept
echo_run-notes-requires-clause-kept g c =
    let t = c.args.told.now in
    let did = c.take_front.ensures.did c.args.queues.now t c.requires.held c.requires.kept in
    let kept = still-kept (g.B.Blocks.value c.args.store.now) (g.B.Blocks.value c.take_front.new.store) (paired c.args.ldterm.now c.args.queues.now) (paired c.take_front.new.ldterm c.args.queues.now) 0 [] t t _ c.audit.ensures did c.requires.kept in
    let typed = c.type_run.ensures c.args.queues.now t did.held kept in
    still-kept (g.B.Blocks.value c.take_front.new.store) (g.B.Blocks.value c.type_run.new.store) (paired c.take_front.new.ldterm c.args.queues.now) (paired c.type_run.new.ldterm c.args.queues.now) 1 [] t t _ c.audit-2.ensures typed kept

pub echo_run-notes-requires-clause-work : goal.echo_run-notes-requires-clause-work
echo_run-notes-requires-clause-work g c =
    let s = g.B.Blocks.value c.args.store.now in
    let s1 = g.B.Blocks.value c.take_front.new.store in
    let s2 = g.B.Blocks.value c.type_run.new.store in
    let x = (paired c.args.ldterm.now c.args.queues.now) in
    let t = c.args.told.now in
    let did = c.take_front.ensures.did c.args.queues.now t c.requires.held c.requires.kept in
    let kept = still-kept (g.B.Blocks.value c.args.store.now) (g.B.Blocks.value c.take_front.new.store) (paired c.args.ldterm.now c.args.queues.now) (paired c.take_front.new.ldterm c.args.queues.now) 0 [] t t _ c.audit.ensures did c.requires.kept in
    let typed = c.type_run.ensures c.args.queues.now t did.held kept in
    let some : 0 < length c.as_slice-run.result.now = (let e = sym c.is_empty.ensures ∙ c.if-is_empty.false in grind (arith, nat_tests)) in
    let same = ap length c.as_slice-run.ensures.value in
    let short = front-short c.take_front.new.run.items (cells_left (ldterm_in s x)) (c.take_front.ensures.front c.args.queues.now) in
    run-works s s1 s2 x (paired c.take_front.new.ldterm c.args.queues.now) (paired c.type_run.new.ldterm c.args.queues.now) c.take_front.new.run.items c.as_slice-run.result.now t did typed (left-works s x (omega arith))

pub echo_run-notes-requires-clause-room : goal.echo_run-notes-requires-clause-room
echo_run-notes-requires-clause-room g c =
    let did = c.take_front.ensures.did c.args.queues.now c.args.told.now c.requires.held c.requires.kept in
    let kept = still-kept (g.B.Blocks.value c.args.store.now) (g.B.Blocks.value c.take_front.new.store) (paired c.args.ldterm.now c.args.queues.now) (paired c.take_front.new.ldterm c.args.queues.now) 0 [] c.args.told.now c.args.told.now _ c.audit.ensures did c.requires.kept in
    let typed = c.type_run.ensures c.args.queues.now c.args.told.now did.held kept in
    record {
      mblks = (let a = did.mblks in let b = typed.mblks in let r = c.requires.room.mblks in omega arith);
      dblks = (let a = did.dblks in let b = typed.dblks in let r = c.requires.room.dblks in omega arith);
    }

pub returns-clause-does : goal.returns-clause-does
returns-clause-does g c =
    let s = g.B.Blocks.value c.args.store.now in
    let s1 = g.B.Blocks.value c.take_front.new.store in
    let x = (paired c.args.ldterm.now c.args.queues.now) in
    let x1 = (paired c.take_front.new.ldterm c.args.queues.now) in
    let t = c.args.told.now in
    let did = c.take_front.ensures.did c.args.queues.now t c.requires.held c.requires.kept in
    let kept = still-kept (g.B.Blocks.value c.args.store.now) (g.B.Blocks.value c.take_front.new.store) (paired c.args.ldterm.now c.args.queues.now) (paired c.take_front.new.ldterm c.args.queues.now) 0 [] t t _ c.audit.ensures did c.requires.kept in
    let typed = c.type_run.ensures c.args.queues.now t did.held kept in
    let run = c.as_slice-run.result.now in
    let front = c.take_front.ensures in
    let most = c.run_room-most.result in
    let is = sym c.as_slice-run.ensures.value in
    let cells = cells_left (ldterm_in s x) in
    let some : 0 < length run = (let e = sym c.is_empty.ensures ∙ c.if-is_empty.false in grind (arith, nat_tests)) in
    let few : length run ≤ most = subst (λ l. length l ≤ most) is front.few in
    run-treated s s1 x x1 c.args.here run t c.requires.held
    (subst (λ l. Proceeds s s1 x x1 0 [] [] t t (sends [] (with_left (drop (length l) cells) (ldterm_in s x)))) is did)
    (g.B.Blocks.value c.type_run.new.store) (paired c.type_run.new.ldterm c.args.queues.now) c.audit.ensures typed
    (g.B.Blocks.value c.echo_run-notes.new.store) (paired c.echo_run-notes.new.ldterm c.echo_run-notes.new.queues) c.echo_run-notes.result.items c.echo_run-notes.new.told most c.audit-2.ensures c.echo_run-notes.ensures
    c.requires.stage some few (subst (λ l. cells ≡ l ++ drop (length l) cells) is (front.front c.args.queues.now))
    (subst (AllByRecursion (λ b. is_plain x.termios b ≡ true)) is (all-plain x.termios c.mark_odd.new.odd c.take_front.new.run.items c.mark_odd.ensures front.plain)) (c.run_room-most.ensures.may (omega arith))

pub returns-clause-within : goal.returns-clause-within
returns-clause-within g c =
    let cells = cells_left (ldterm_in (g.B.Blocks.value c.args.store.now) (paired c.args.ldterm.now c.args.queues.now)) in
    front-short c.as_slice-run.result.now cells (subst (λ l. cells ≡ l ++ drop (length l) cells) (sym c.as_slice-run.ensures.value) (c.take_front.ensures.front c.args.queues.now))

pub returns-then-is_empty-clause-begun : goal.returns-then-is_empty-clause-begun
returns-then-is_empty-clause-begun g c = λ byte less. absurd (omega arith)

pub returns-clause-begun : goal.returns-clause-begun
returns-clause-begun g c = λ byte within.
    let s = g.B.Blocks.value c.args.store.now in
    let x = (paired c.args.ldterm.now c.args.queues.now) in
    let run = c.as_slice-run.result.now in
    let front = c.take_front.ensures in
    let most = c.run_room-most.result in
    let is = sym c.as_slice-run.ensures.value in
    let cells = cells_left (ldterm_in s x) in
    let some : 0 < length run = (let e = sym c.is_empty.ensures ∙ c.if-is_empty.false in grind (arith, nat_tests)) in
    let few : length run ≤ most = subst (λ l. length l ≤ most) is front.few in
    let short = c.run_room-most.ensures.few in
    run-begun s x run most c.requires.held c.requires.stage few (subst (λ l. cells ≡ l ++ drop (length l) cells) is (front.front c.args.queues.now))
    (subst (AllByRecursion (λ b. is_plain x.termios b ≡ true)) is (all-plain x.termios c.mark_odd.new.odd c.take_front.new.run.items c.mark_odd.ensures front.plain)) (c.run_room-most.ensures.may (omega arith))
    c.args.here (omega arith) (c.run_room-most.ensures.many (omega arith)) byte within

-- a run begins only where there is room for the blocks that it takes too
pub returns-then-is_empty-clause-many : goal.returns-then-is_empty-clause-many
returns-then-is_empty-clause-many g c = λ many.
    let did = c.take_front.ensures.did c.args.queues.now c.args.told.now c.requires.held c.requires.kept in
    record { mblks = (let a = did.mblks in let r = many.mblks in omega (arith, a, r)); dblks = (let a = did.dblks in let r = many.dblks in omega (arith, a, r)) }

pub returns-clause-many : goal.returns-clause-many
returns-clause-many g c = λ many.
    let run = c.as_slice-run.result.now in
    let some : 0 < length run = (let e = sym c.is_empty.ensures ∙ c.if-is_empty.false in grind (arith, nat_tests)) in
    let few : length run ≤ c.run_room-most.result = subst (λ l. length l ≤ c.run_room-most.result) (sym c.as_slice-run.ensures.value) c.take_front.ensures.few in
    let room = c.run_room-most.ensures.many (omega (arith, some, few)) in
    let does = returns-clause-does g c in
    record { mblks = (let a = does.mblks in let r = room.mblks in omega (arith, a, r)); dblks = (let a = does.dblks in let r = room.dblks in omega (arith, a, r)) }
