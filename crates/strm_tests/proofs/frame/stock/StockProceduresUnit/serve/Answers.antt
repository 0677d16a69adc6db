-- The first message is sent on, if there is one.
use Rattle.std.proofs.Common.{ℕ, [], ◌∷◌, Option, None, Some, refl, sym, ap, ◌∙◌, rules}
use Rattle.strm_types.specs.declared.spots.Spot.{Spot}
use Rattle.strm_types.specs.Service.{Serving}
use Rattle.strm_blocks.specs.Blocks.{in_hand, list_at, token}
use Rattle.strm_queue.specs.Stored.{messages_on}
use Rattle.strm_frame.specs.declared.parcels.Sent.{Sent}
use Rattle.strm_frame.specs.Outboxes.{message_in}
use Rattle.strm_types.specs.Queue as plain
use Rattle.strm_types.specs.Standings as standings
use Rattle.strm_types.specs.Standings.{stood}
use Rattle.strm_frame.specs.declared.queue_pair.QueuePair.{QueuePair}
use Rattle.strm_frame.specs.Standings.{pair_in, queues_in}
use Rattle.strm_tests.specs.Toys.{Stock, stock_serves}
use Rattle.strm_frame.proofs.Handing.{still-hands, none-hands, none-chains, no-parts, one-parts, one-chains, no-room}
use Rattle.strm_tests.proofs.ToySteps.{changed-own, changed-pair, changed-ready, never-bare, one-room, owned-by, pair-ready, serves-none, serves-first, took-changes, took-hands}
use Rattle.strm_frame.proofs.Emptiness.{none-listed}
use Rattle.strm_tests.proofs.frame.stock.StockProceduresUnit.serve.Goals as goal

pub unreachable-requires : goal.unreachable-requires
unreachable-requires g c = never-bare c.args.queues.now c.in_default.is c.requires.held.itself

pub returns-then-is_empty : goal.returns-then-is_empty
returns-then-is_empty g c =
    let s = g.B.Blocks.value c.args.store.now in
    let x = c.args.self.now in
    let pair = c.in-Some.pair in
    let same = ap (λ (o : Option QueuePair). stood x.name (queues_in s o)) c.in-Some.is in
    let none = none-listed (list_at s pair.write.list) c.is_empty.result c.is_empty.ensures c.if-is_empty.true in
    record {
      state = search rules;
      notes = search rules;
      sent = no-parts _ _ c.none.ensures
          ∙ ap (λ (v : Serving ℕ Stock). v.acted.sent) (sym (ap (stock_serves c.args.here c.args._again None) same ∙ serves-none c.args.here c.args._again None x.name (pair_in s pair) none));
      told = search rules;
      bytes = search rules;
      again = search rules;
      stopped = search rules;
      stops = search rules;
      some = search rules;
      made = search rules;
      held = search rules;
      own = search rules;
      chains = none-chains _ _ c.none.ensures;
      hands = none-hands _ _ (λ _. 0) (λ _. 0) (λ _. 0) _ c.none.ensures (still-hands _ (λ _. 0));
      room = no-room s 8 _ c.none.ensures;
      pool = search rules;
    }

pub returns : goal.returns
returns g c =
    let s = g.B.Blocks.value c.args.store.now in
    let t = g.B.Blocks.value c.dequeue.new.store in
    let next : Sent = record { to = c.toward.result; message = c.in-Some-dequeue.message } in
    let m = message_in t (token next.message) in
    let x = c.args.self.now in
    let pair = c.in-Some.pair in
    let ready = pair-ready s c.args.queues.now pair c.in-Some.is c.requires.held.queues in
    let same = ap (λ (o : Option QueuePair). stood x.name (queues_in s o)) c.in-Some.is in
    let q = c.dequeue.new.queue in
    let rest = messages_on t q.list in
    let e = c.in-Some-dequeue.ensures in
    let n = token next.message in
    let hand = record { name = n; chain = in_hand t n } ∷ s.hand in
    let changed = took-changes s t pair.write q n e in
    let did = ap (stock_serves c.args.here c.args._again None) same ∙ serves-first c.args.here c.args._again None x.name (pair_in s pair) m rest e.first in
    record {
      state = ap (λ (p : standings.QueuePair ℕ). stood x.name (Some p)) (changed-pair s t hand pair ready q changed ∙ ap (λ (w : plain.Queue ℕ). record (pair_in s pair) { write = w }) e.queue)
          ∙ ap (λ (v : Serving ℕ Stock). v.acted.state) (sym did);
      notes = search rules;
      sent = one-parts t next _ c.one.ensures
          ∙ ap (λ (to : Spot). record { to = to; message = m } ∷ []) c.toward.ensures
          ∙ ap (λ (v : Serving ℕ Stock). v.acted.sent) (sym did);
      told = search rules;
      bytes = search rules;
      again = search rules;
      stopped = search rules;
      stops = search rules;
      some = search rules;
      made = search rules;
      held = record { queues = changed-ready s t hand pair ready q changed; itself = refl };
      own = owned-by s t c.args.queues.now pair _ c.in-Some.is (changed-own s t hand pair ready q changed);
      chains = one-chains t next _ c.one.ensures e.chain;
      hands = took-hands s t _ _ next _ c.one.ensures e;
      room = one-room s t 8 next _ c.one.ensures c.requires.room e.frees;
      pool = search rules;
    }
