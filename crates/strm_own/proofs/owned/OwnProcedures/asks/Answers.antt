-- By the queue of the way, where there is one.
use Rattle.std.proofs.Common.{ℕ, ◌≤◌, arith, ap, subst, sym, ◌∙◌}
use Rattle.std.specs.Prelude.{Option}
use Rattle.strm_types.specs.Cells.{plain}
use Rattle.strm_types.specs.OwnStands.{own_asked, own_asks}
use Rattle.strm_types.specs.Queue as queues
use Rattle.strm_types.specs.Queue.{first_size}
use Rattle.strm_types.specs.Standings.{messages_on, stood}
use Rattle.strm_laws.specs.Behaviours.{own_by}
use Rattle.strm_queue.specs.Stored.{IsReady, queue_in}
use Rattle.strm_frame.specs.Standings.{queues_in}
use Rattle.strm_frame.specs.declared.queue_pair.QueuePair.{QueuePair}
use Rattle.strm_frame.proofs.Flags.{way-ready, way-shown}
use Rattle.strm_own.proofs.Queueing.{held-pair}
use Rattle.strm_own.proofs.owned.OwnProcedures.asks.Goals as goal

pub asked_on-requires : goal.asked_on-requires
asked_on-requires g c =
    let s = g.B.Blocks.value c.args.store.now in
    let held = held-pair s c.args.self.now c.args.queues.now c.in-Some.pair c.in-Some.is c.requires.held in
    record { ready = subst (IsReady s) (sym c.queue.ensures) (way-ready s c.args.way c.in-Some.pair held.0) }

pub returns-in-Some-clause-asks : goal.returns-in-Some-clause-asks
returns-in-Some-clause-asks g c =
    let s = g.B.Blocks.value c.args.store.now in
    let x = c.args.self.now in
    let by = own_by g.M.Behaves.does plain in
    c.asked_on.ensures.asks
    ∙ ap (λ (q : queues.Queue ℕ). own_asked by c.args.way x q.messages) (ap (queue_in s) c.queue.ensures ∙ way-shown s c.args.way c.in-Some.pair)
    ∙ ap (λ (o : Option QueuePair). own_asks by c.args.way (stood x (queues_in s o))) (sym c.in-Some.is)

pub returns-in-Some-clause-few : goal.returns-in-Some-clause-few
returns-in-Some-clause-few g c =
    let s = g.B.Blocks.value c.args.store.now in
    subst (λ (o : Option QueuePair). first_size (messages_on c.args.way (queues_in s o)) ≤ 16777216) (sym c.in-Some.is)
    (subst (λ (q : queues.Queue ℕ). first_size q.messages ≤ 16777216) (ap (queue_in s) c.queue.ensures ∙ way-shown s c.args.way c.in-Some.pair)
    c.asked_on.ensures.few)

pub returns-in-None-clause-asks : goal.returns-in-None-clause-asks
returns-in-None-clause-asks g c =
    let s = g.B.Blocks.value c.args.store.now in
    ap (λ (o : Option QueuePair). own_asks (own_by g.M.Behaves.does plain) c.args.way (stood c.args.self.now (queues_in s o))) (sym c.in-None.is)

pub returns-in-None-clause-few : goal.returns-in-None-clause-few
returns-in-None-clause-few g c =
    let s = g.B.Blocks.value c.args.store.now in
    subst (λ (o : Option QueuePair). first_size (messages_on c.args.way (queues_in s o)) ≤ 16777216) (sym c.in-None.is) (omega arith)
