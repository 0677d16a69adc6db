-- What its queue of the way answers, where it has queues.
use Rattle.strm_frame.proofs.Prelude.{ℕ, ap, sym, subst, ◌∙◌, length, Option, IfSome}
use Rattle.strm_frame.specs.Prelude.{bytes_of, stood, messages_at, IsReady, queue_in}
use Rattle.strm_types.specs.Queue as plain
use Rattle.strm_frame.specs.declared.queue_pair.QueuePair.{QueuePair}
use Rattle.strm_frame.specs.Standings.{IsPairReady, queues_in}
use Rattle.strm_frame.proofs.Flags.{way-ready, way-shown}
use Rattle.strm_frame.proofs.standing.Standing.sizes.Goals as goal

pub sizes-requires : goal.sizes-requires
sizes-requires g c =
    let s = g.B.Blocks.value c.args.store.now in
    let ready = subst (λ (o : Option QueuePair). IfSome o (IsPairReady s)) c.in-Some.is c.requires.held.queues in
    record { ready = subst (IsReady s) (sym c.queue.ensures) (way-ready s c.args.way c.in-Some.pair ready) }

pub returns-in-Some-clause-messages : goal.returns-in-Some-clause-messages
returns-in-Some-clause-messages g c =
    let s = g.B.Blocks.value c.args.store.now in
    let p = g.M.Module.plain s c.args.self.now.module in
    let said = λ (o : Option QueuePair). length (messages_at c.args.way (stood p (queues_in s o))) in
    c.sizes.ensures.messages ∙ ap (λ (q : plain.Queue ℕ). length q.messages) (ap (queue_in s) c.queue.ensures ∙ way-shown s c.args.way c.in-Some.pair) ∙ ap said (sym c.in-Some.is)

pub returns-in-None-clause-messages : goal.returns-in-None-clause-messages
returns-in-None-clause-messages g c =
    let s = g.B.Blocks.value c.args.store.now in
    let p = g.M.Module.plain s c.args.self.now.module in
    ap (λ (o : Option QueuePair). length (messages_at c.args.way (stood p (queues_in s o)))) (sym c.in-None.is)

pub returns-in-Some-clause-bytes : goal.returns-in-Some-clause-bytes
returns-in-Some-clause-bytes g c =
    let s = g.B.Blocks.value c.args.store.now in
    let p = g.M.Module.plain s c.args.self.now.module in
    let said = λ (o : Option QueuePair). bytes_of (messages_at c.args.way (stood p (queues_in s o))) in
    c.sizes.ensures.bytes ∙ ap (λ (q : plain.Queue ℕ). bytes_of q.messages) (ap (queue_in s) c.queue.ensures ∙ way-shown s c.args.way c.in-Some.pair) ∙ ap said (sym c.in-Some.is)

pub returns-in-None-clause-bytes : goal.returns-in-None-clause-bytes
returns-in-None-clause-bytes g c =
    let s = g.B.Blocks.value c.args.store.now in
    let p = g.M.Module.plain s c.args.self.now.module in
    ap (λ (o : Option QueuePair). bytes_of (messages_at c.args.way (stood p (queues_in s o)))) (sym c.in-None.is)
