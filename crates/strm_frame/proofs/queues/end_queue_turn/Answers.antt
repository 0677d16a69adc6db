-- Whether it wants to be read is whether its list is empty.
use Rattle.strm_frame.proofs.Prelude.{◌∙◌, sym, ap, not}
use Rattle.strm_frame.specs.Prelude.{turn_ended, list_at, message_of, queue_in}
use Rattle.strm_types.specs.Queue.{relieved}
use Rattle.strm_types.specs.Service.{turn_relieves}
use Rattle.strm_frame.proofs.Emptiness.{none-mapped}
use Rattle.strm_frame.proofs.queues.end_queue_turn.Goals as goal

pub returns-then-not-took-clause-queue : goal.returns-then-not-took-clause-queue
returns-then-not-took-clause-queue g c =
    let s = g.B.Blocks.value c.args.store.now in
    let q = c.args.queue.now in
    let empty = c.is_empty-queue.ensures ∙ sym (none-mapped message_of (list_at s q.list)) in
    ap (λ v. record (queue_in s q) { want_read = v }) empty ∙ ap (λ v. turn_ended v (queue_in s q)) (sym c.if-not-took.true)

pub returns-then-not-took-clause-room : goal.returns-then-not-took-clause-room
returns-then-not-took-clause-room g c =
    let s = g.B.Blocks.value c.args.store.now in
    ap (λ v. turn_relieves v (queue_in s c.args.queue.now)) (sym c.if-not-took.true)

pub returns-then-not-took-clause-more : goal.returns-then-not-took-clause-more
returns-then-not-took-clause-more g c =
    let s = g.B.Blocks.value c.args.store.now in
    ap not (c.is_empty-queue.ensures ∙ sym (none-mapped message_of (list_at s c.args.queue.now.list)))

pub returns-clause-queue : goal.returns-clause-queue
returns-clause-queue g c =
    let s = g.B.Blocks.value c.args.store.now in
    let q = c.args.queue.now in
    let empty = c.is_empty-queue.ensures ∙ sym (none-mapped message_of (list_at s q.list)) in
    c.relieve.ensures.queue s (record { messages = c.requires.messages; counted = c.requires.counted })
    ∙ ap (λ v. relieved (record (queue_in s q) { want_read = v })) empty ∙ ap (λ v. turn_ended v (queue_in s q)) (sym c.if-not-took.false)

pub returns-clause-room : goal.returns-clause-room
returns-clause-room g c =
    let s = g.B.Blocks.value c.args.store.now in
    let q = c.args.queue.now in
    c.relieve.ensures.went s (record { messages = c.requires.messages; counted = c.requires.counted })
    ∙ ap (λ v. turn_relieves v (queue_in s q)) (sym c.if-not-took.false)

pub returns-clause-more : goal.returns-clause-more
returns-clause-more g c =
    let s = g.B.Blocks.value c.args.store.now in
    ap not (c.is_empty-queue.ensures ∙ sym (none-mapped message_of (list_at s c.args.queue.now.list)))
