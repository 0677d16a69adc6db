-- By the queue of the way.
use Rattle.strm_ldterm.proofs.Prelude.{ℕ, ◌≤◌, ap, sym, subst, ◌∙◌, Option}
use Rattle.strm_ldterm.specs.Prelude.{asked_first, first_size, IsReady, queue_in, QueuePair}
use Rattle.strm_types.specs.LdtermStands.{asks_there}
use Rattle.strm_types.specs.Queue as plain
use Rattle.strm_types.specs.Standings.{messages_on, stood}
use Rattle.strm_frame.specs.Standings.{queues_in}
use Rattle.strm_frame.proofs.Flags.{way-ready, way-shown}
use Rattle.strm_ldterm.specs.Stands.{own_in}
use Rattle.strm_ldterm.proofs.Standing.{never-bare, stands-held}
use Rattle.strm_ldterm.proofs.module.LdtermProceduresUnit.asks.Goals as goal

pub unreachable-requires : goal.unreachable-requires
unreachable-requires g c = never-bare (g.B.Blocks.value c.args.store.now) c.args.self.now c.args.queues.now c.in_default.is c.requires.held

pub asked_on-requires : goal.asked_on-requires
asked_on-requires g c =
    let s = g.B.Blocks.value c.args.store.now in
    let held = stands-held s c.args.self.now c.args.queues.now c.in-Some.pair c.in-Some.is c.requires.held in
    record { ready = subst (IsReady s) (sym c.queue.ensures) (way-ready s c.args.way c.in-Some.pair (record { read = held.read; write = held.write; apart = held.apart })) }

pub returns-clause-asks : goal.returns-clause-asks
returns-clause-asks g c =
    let s = g.B.Blocks.value c.args.store.now in
    let x = c.args.self.now in
    c.asked_on.ensures.asks
    ∙ ap (λ (q : plain.Queue ℕ). asked_first c.args.way x.stopped q.messages) (ap (queue_in s) c.queue.ensures ∙ way-shown s c.args.way c.in-Some.pair)
    ∙ ap (λ (o : Option QueuePair). asks_there c.args.way (stood (own_in s x) (queues_in s o))) (sym c.in-Some.is)

pub returns-clause-few : goal.returns-clause-few
returns-clause-few g c =
    let s = g.B.Blocks.value c.args.store.now in
    subst (λ (o : Option QueuePair). first_size (messages_on c.args.way (queues_in s o)) ≤ 16777216) (sym c.in-Some.is)
    (subst (λ (q : plain.Queue ℕ). first_size q.messages ≤ 16777216) (ap (queue_in s) c.queue.ensures ∙ way-shown s c.args.way c.in-Some.pair) c.asked_on.ensures.few)
