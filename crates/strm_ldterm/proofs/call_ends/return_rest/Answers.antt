-- What is left goes back to the list, or the message is freed.
use Rattle.strm_ldterm.proofs.Prelude.{ap, sym, subst, refl, arith, ◌∙◌, Some}
use Rattle.strm_ldterm.specs.Prelude.{queue_in, Changes, FreesBlocks, dropped, token, message_in}
use Rattle.strm_ldterm.proofs.Finished.{back-none, back-some}
use Rattle.strm_ldterm.proofs.Returning.{freed-changes, freed-frees}
use Rattle.strm_ldterm.proofs.call_ends.return_rest.Goals as goal

pub returns-then-booked_size-eq0-clause-queue : goal.returns-then-booked_size-eq0-clause-queue
returns-then-booked_size-eq0-clause-queue g c =
    let s = g.B.Blocks.value c.args.store.now in
    let m = message_in s (token c.args.message) in
    ap (λ v. queue_in v c.args.queue.now) c.free.ensures
    ∙ sym (back-none (Some m) m (queue_in s c.args.queue.now) refl (sym c.booked_size.ensures ∙ c.if-booked_size-eq0.true))

pub returns-then-booked_size-eq0-clause-changes : goal.returns-then-booked_size-eq0-clause-changes
returns-then-booked_size-eq0-clause-changes g c =
    let s = g.B.Blocks.value c.args.store.now in
    let i = token c.args.message in
    subst (λ v. Changes (dropped s i) v c.args.queue.now c.args.queue.now) (sym c.free.ensures) (freed-changes s c.args.queue.now i c.requires.ready)

pub returns-then-booked_size-eq0-clause-frees : goal.returns-then-booked_size-eq0-clause-frees
returns-then-booked_size-eq0-clause-frees g c =
    let s = g.B.Blocks.value c.args.store.now in
    subst (FreesBlocks s) (sym c.free.ensures) (freed-frees s (token c.args.message) c.requires.in_hand)

pub returns-then-booked_size-eq0-clause-blocks : goal.returns-then-booked_size-eq0-clause-blocks
returns-then-booked_size-eq0-clause-blocks g c = λ left.
    let none = c.booked_size.ensures in
    let zero = c.if-booked_size-eq0.true in
    absurd (omega (arith, left, none, zero))

pub returns-clause-queue : goal.returns-clause-queue
returns-clause-queue g c =
    let s = g.B.Blocks.value c.args.store.now in
    let m = message_in s (token c.args.message) in
    c.put_back.ensures.queue
    ∙ sym (back-some (Some m) m (queue_in s c.args.queue.now) refl (λ e. c.if-booked_size-eq0.false (c.booked_size.ensures ∙ e)))

pub returns-clause-blocks : goal.returns-clause-blocks
returns-clause-blocks g c = λ left. c.put_back.ensures.blocks
