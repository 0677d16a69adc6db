-- What its queue of the way answers, where it has queues.
use Rattle.strm_frame.proofs.Prelude.{ℕ, ap, sym, subst, ◌∙◌, Option, IfSome}
use Rattle.strm_frame.specs.Prelude.{full_at, stood, IsReady, queue_in}
use Rattle.strm_types.specs.Queue.{is_full}
use Rattle.strm_types.specs.Queue as plain
use Rattle.strm_frame.specs.declared.queue_pair.QueuePair.{QueuePair}
use Rattle.strm_frame.specs.Standings.{IsPairReady, queues_in}
use Rattle.strm_frame.proofs.Flags.{way-ready, way-shown}
use Rattle.strm_frame.proofs.standing.Standing.is_full.Goals as goal

pub is_full-requires : goal.is_full-requires
is_full-requires g c =
    let s = g.B.Blocks.value c.args.store.now in
    let ready = subst (λ (o : Option QueuePair). IfSome o (IsPairReady s)) c.in-Some.is c.requires.held.queues in
    record { ready = subst (IsReady s) (sym c.queue.ensures) (way-ready s c.args.way c.in-Some.pair ready) }

pub returns-in-Some : goal.returns-in-Some
returns-in-Some g c =
    let s = g.B.Blocks.value c.args.store.now in
    let p = g.M.Module.plain s c.args.self.now.module in
    let said = λ (o : Option QueuePair). full_at c.args.way c.args.band.0 (stood p (queues_in s o)) in
    c.is_full.ensures ∙ ap (λ (q : plain.Queue ℕ). is_full c.args.band.0 q) (ap (queue_in s) c.queue.ensures ∙ way-shown s c.args.way c.in-Some.pair) ∙ ap said (sym c.in-Some.is)

pub returns-in-None : goal.returns-in-None
returns-in-None g c =
    let s = g.B.Blocks.value c.args.store.now in
    let p = g.M.Module.plain s c.args.self.now.module in
    ap (λ (o : Option QueuePair). full_at c.args.way c.args.band.0 (stood p (queues_in s o))) (sym c.in-None.is)
