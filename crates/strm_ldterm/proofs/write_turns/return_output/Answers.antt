-- The message in work leaves the hand, for the write queue.
use Rattle.strm_ldterm.proofs.Prelude.{sym, ap, subst, ◌∙◌, ◌≡◌, ◌<◌, length, Some, can-in_hand}
use Rattle.strm_ldterm.specs.Stands.{ldterm_in, paired}
use Rattle.strm_ldterm.specs.Does.{Alters}
use Rattle.strm_ldterm.proofs.Finished.{work-cells, work-can}
use Rattle.strm_ldterm.proofs.Freeing.{none-freed}
use Rattle.strm_ldterm.proofs.Returning.{write-returned, write-returned-alters}
use Rattle.strm_ldterm.proofs.write_turns.return_output.Goals as goal

pub return_rest-requires-clause-in_hand : goal.return_rest-requires-clause-in_hand
return_rest-requires-clause-in_hand g c =
    let s = g.B.Blocks.value c.args.store.now in
    let there : c.args.ldterm.now.in_work ≡ Some c.in-Some.message = sym c.take.ensures.value ∙ c.in-Some.is in
    can-in_hand s _ _ c.audit.ensures (work-can s (paired c.args.ldterm.now c.args.queues.now) c.in-Some.message there c.requires.kept)

pub returns-clause-state : goal.returns-clause-state
returns-clause-state g c =
    let s = g.B.Blocks.value c.args.store.now in
    let t = g.B.Blocks.value c.return_rest.new.store in
    let x = (paired c.args.ldterm.now c.args.queues.now) in
    let there : x.in_work ≡ Some c.in-Some.message = sym c.take.ensures.value ∙ c.in-Some.is in
    ap (λ o. ldterm_in t (record x { in_work = o; write_queue = c.return_rest.new.queue })) c.take.ensures.after
    ∙ write-returned s x c.in-Some.message there c.audit.ensures c.requires.held c.requires.kept t c.return_rest.new.queue c.return_rest.ensures.changes c.return_rest.ensures.queue

pub returns-clause-alters : goal.returns-clause-alters
returns-clause-alters g c =
    let s = g.B.Blocks.value c.args.store.now in
    let t = g.B.Blocks.value c.return_rest.new.store in
    let x = (paired c.args.ldterm.now c.args.queues.now) in
    let there : x.in_work ≡ Some c.in-Some.message = sym c.take.ensures.value ∙ c.in-Some.is in
    subst (λ o. Alters s t x (record x { in_work = o; write_queue = c.return_rest.new.queue })) (sym c.take.ensures.after)
    (write-returned-alters s x c.in-Some.message there c.audit.ensures c.requires.held c.requires.kept t c.return_rest.new.queue c.return_rest.ensures.changes c.return_rest.ensures.frees)

pub returns-in_default-clause-blocks : goal.returns-in_default-clause-blocks
returns-in_default-clause-blocks g c = λ left. none-freed (g.B.Blocks.value c.args.store.now)

pub returns-clause-blocks : goal.returns-clause-blocks
returns-clause-blocks g c = λ left.
    let there : c.args.ldterm.now.in_work ≡ Some c.in-Some.message = sym c.take.ensures.value ∙ c.in-Some.is in
    c.return_rest.ensures.blocks (subst (λ l. 0 < length l) (work-cells (g.B.Blocks.value c.args.store.now) (paired c.args.ldterm.now c.args.queues.now) c.in-Some.message there) left)
