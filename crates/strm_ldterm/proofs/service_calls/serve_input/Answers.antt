use Rattle.strm_ldterm.proofs.Prelude.{[], false, refl, sym, ap, subst, ◌∙◌, arith, None}
use Rattle.strm_ldterm.specs.Bounds.{passes_whole}
use Rattle.strm_ldterm.specs.Began.{input_of}
use Rattle.strm_ldterm.specs.Does.{Proceeds}
use Rattle.strm_ldterm.specs.Stands.{ldterm_in, stage_in, paired}
use Rattle.strm_ldterm.specs.Turns.{stages_left}
use Rattle.strm_ldterm.proofs.Joining.{still-kept}
use Rattle.strm_ldterm.proofs.Turned.{between-needs, first-serves, whole-serves, work-in, work-treats}
use Rattle.strm_ldterm.proofs.service_calls.serve_input.Goals as goal

pub treat-requires-clause-held : goal.treat-requires-clause-held
treat-requires-clause-held g c = (c.in-InWork.ensures.works c.args.told.now).held

pub treat-requires-clause-kept : goal.treat-requires-clause-kept
treat-requires-clause-kept g c =
    still-kept (g.B.Blocks.value c.args.store.now) (g.B.Blocks.value c.begin_input.new.store) (paired c.args.ldterm.now c.args.queues.now) (paired c.begin_input.new.ldterm c.begin_input.new.queues) 0 [] c.args.told.now c.args.told.now _ c.audit.ensures
    (c.in-InWork.ensures.works c.args.told.now) c.requires.kept

pub treat-requires-clause-room : goal.treat-requires-clause-room
treat-requires-clause-room g c =
    let works = c.in-InWork.ensures.works c.args.told.now in
    let few = between-needs (stage_in c.begin_input.new.ldterm.stage) (ap stages_left c.in-InWork.ensures.stage ∙ c.requires.stage) in
    record { mblks = (let r = c.requires.room.mblks in let w = works.mblks in omega (arith, r, w, few)); dblks = (let r = c.requires.room.dblks in let w = works.dblks in omega (arith, r, w, few)) }

pub treat-requires-clause-work : goal.treat-requires-clause-work
treat-requires-clause-work g c =
    work-in (g.B.Blocks.value c.args.store.now) (g.B.Blocks.value c.begin_input.new.store) c.args.here (paired c.args.ldterm.now c.args.queues.now) (paired c.begin_input.new.ldterm c.begin_input.new.queues) c.in-InWork.bytes c.args.told.now c.in-InWork.ensures

pub returns-in-Empty : goal.returns-in-Empty
returns-in-Empty g c =
    let s = g.B.Blocks.value c.args.store.now in
    let s1 = g.B.Blocks.value c.begin_input.new.store in
    let x = (paired c.args.ldterm.now c.args.queues.now) in
    let x1 = (paired c.begin_input.new.ldterm c.begin_input.new.queues) in
    let whole = c.in-Empty.ensures in
    whole-serves s s1 c.args.here x x1 false c.args.told.now c.of_whole.result c.none.result 0 (input_of s s1 c.args.here x x1 None)
    c.of_whole.ensures.notes c.of_whole.ensures.sent c.of_whole.ensures.bytes c.of_whole.ensures.stopped c.of_whole.ensures.again
    (first-serves c.args.here false None (ldterm_in s x) c.requires.way refl)
    (subst (λ out. Proceeds s s1 x x1 0 [] out c.args.told.now c.args.told.now (input_of s s1 c.args.here x x1 None).acted) (sym c.none.ensures) (whole.passes None c.args.told.now))
    (whole.size None) (whole.again None) (λ up. c.requires.room) (ap (λ w. passes_whole w false (ldterm_in s x)) c.requires.way ∙ whole.whole)

pub returns-in-Whole : goal.returns-in-Whole
returns-in-Whole g c =
    let s = g.B.Blocks.value c.args.store.now in
    let s1 = g.B.Blocks.value c.begin_input.new.store in
    let x = (paired c.args.ldterm.now c.args.queues.now) in
    let x1 = (paired c.begin_input.new.ldterm c.begin_input.new.queues) in
    let whole = c.in-Whole.ensures in
    let done = c.of_whole-in-Whole in
    whole-serves s s1 c.args.here x x1 false c.args.told.now done.result c.in-Whole.passed.sent c.in-Whole.passed.bytes (input_of s s1 c.args.here x x1 None)
    done.ensures.notes done.ensures.sent done.ensures.bytes done.ensures.stopped done.ensures.again
    (first-serves c.args.here false None (ldterm_in s x) c.requires.way refl)
    (whole.passes None c.args.told.now) (whole.size None) (whole.again None) (λ up. c.requires.room) (ap (λ w. passes_whole w false (ldterm_in s x)) c.requires.way ∙ whole.whole)

pub returns-in-InWork : goal.returns-in-InWork
returns-in-InWork g c =
    work-treats (g.B.Blocks.value c.args.store.now) (g.B.Blocks.value c.treat.new.store) c.args.here (paired c.args.ldterm.now c.args.queues.now) (paired c.treat.new.ldterm c.treat.new.queues) c.treat.result c.args.told.now c.treat.new.told c.requires.way
    (g.B.Blocks.value c.begin_input.new.store) (paired c.begin_input.new.ldterm c.begin_input.new.queues) c.in-InWork.bytes c.audit.ensures c.requires.stage c.in-InWork.ensures c.treat.ensures
