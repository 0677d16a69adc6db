-- What its queue of the way answers, where it has queues.
use Rattle.strm_frame.proofs.Prelude.{ℕ, ap, sym, subst, ◌∙◌, Option, IfSome}
use Rattle.strm_frame.specs.Prelude.{count_of, stood, messages_at, IsReady, queue_in}
use Rattle.strm_types.specs.Queue as plain
use Rattle.strm_frame.specs.declared.queue_pair.QueuePair.{QueuePair}
use Rattle.strm_frame.specs.Standings.{IsPairReady, queues_in}
use Rattle.strm_frame.proofs.Flags.{way-ready, way-shown}
use Rattle.strm_frame.proofs.standing.Standing.count.Goals as goal

pub count-requires : goal.count-requires
count-requires g c =
    let s = g.B.Blocks.value c.args.store.now in
    let ready = subst (λ (o : Option QueuePair). IfSome o (IsPairReady s)) c.in-Some.is c.requires.held.queues in
    record { ready = subst (IsReady s) (sym c.queue.ensures) (way-ready s c.args.way c.in-Some.pair ready) }

pub returns-in-Some : goal.returns-in-Some
returns-in-Some g c =
    let s = g.B.Blocks.value c.args.store.now in
    let p = g.M.Module.plain s c.args.self.now.module in
    let said = λ (o : Option QueuePair). count_of c.args.band.0 (messages_at c.args.way (stood p (queues_in s o))) in
    c.count.ensures ∙ ap (λ (q : plain.Queue ℕ). count_of c.args.band.0 q.messages) (ap (queue_in s) c.queue.ensures ∙ way-shown s c.args.way c.in-Some.pair) ∙ ap said (sym c.in-Some.is)

pub returns-in-None : goal.returns-in-None
returns-in-None g c =
    let s = g.B.Blocks.value c.args.store.now in
    let p = g.M.Module.plain s c.args.self.now.module in
    ap (λ (o : Option QueuePair). count_of c.args.band.0 (messages_at c.args.way (stood p (queues_in s o)))) (sym c.in-None.is)
