-- With queues or without.
use Rattle.std.proofs.Common.{subst, sym}
use Rattle.std.specs.Prelude.{None, Option, Some}
use Rattle.strm_types.specs.Budgets.{own_at}
use Rattle.strm_types.specs.Cells.{plain}
use Rattle.strm_types.specs.OwnStands.{own_puts}
use Rattle.strm_types.specs.Standings.{stood}
use Rattle.strm_types.specs.Tables.{own_does}
use Rattle.strm_blocks.specs.Blocks.{token}
use Rattle.strm_laws.specs.Behaviours.{own_by}
use Rattle.strm_frame.specs.Outboxes.{message_in}
use Rattle.strm_frame.specs.Standings.{Fits, queues_in, standing}
use Rattle.strm_frame.specs.declared.queue_pair.QueuePair.{QueuePair}
use Rattle.strm_frame.proofs.Handing.{can-in_hand}
use Rattle.strm_own.specs.Stands.{IsHeld, PutsThere}
use Rattle.strm_own.proofs.Queueing.{held-pair, puts-alone}
use Rattle.strm_own.proofs.owned.OwnProcedures.put.Goals as goal

pub put-requires-clause-ready : goal.put-requires-clause-ready
put-requires-clause-ready g c = (held-pair (g.B.Blocks.value c.args.store.now) c.args.self.now c.args.queues.now c.in-Some.pair c.in-Some.is c.requires.held).0

pub put-requires-clause-has : goal.put-requires-clause-has
put-requires-clause-has g c = (held-pair (g.B.Blocks.value c.args.store.now) c.args.self.now c.args.queues.now c.in-Some.pair c.in-Some.is c.requires.held).1

pub put-requires-clause-may : goal.put-requires-clause-may
put-requires-clause-may g c = record {
  held = can-in_hand (g.B.Blocks.value c.args.store.now) (token c.args.message) (λ _. 0) c.audit.ensures c.requires.can_put;
  chain = c.requires.chain;
  inside = c.requires.inside;
  small = c.requires.small;
}

pub put_alone-requires-clause-may : goal.put_alone-requires-clause-may
put_alone-requires-clause-may g c = record {
  held = can-in_hand (g.B.Blocks.value c.args.store.now) (token c.args.message) (λ _. 0) c.audit.ensures c.requires.can_put;
  chain = c.requires.chain;
  inside = c.requires.inside;
  small = c.requires.small;
}

pub returns-in-Some : goal.returns-in-Some
returns-in-Some g c =
    let s = g.B.Blocks.value c.args.store.now in
    let i = token c.args.message in
    let m = message_in s i in
    let x = c.args.self.now in
    let by = own_by g.M.Behaves.does plain in
    subst (λ (q : Option QueuePair). PutsThere s (g.B.Blocks.value c.put.new.store) x q c.put.new.own (Some c.put.new.pair) i (own_at own_does c.args.here m)
    c.put.result c.args.told.now c.put.new.told (own_puts by c.args.here m (stood x (queues_in s q)))) (sym c.in-Some.is) c.put.ensures

pub returns-in-None : goal.returns-in-None
returns-in-None g c =
    let K = g.M.Behaves.does in
    let s = g.B.Blocks.value c.args.store.now in
    let t = g.B.Blocks.value c.put_alone.new.store in
    let i = token c.args.message in
    let m = message_in s i in
    let x = c.args.self.now in
    let by = own_by K plain in
    let here = c.args.here in
    let most = own_at own_does here m in
    let owes = K.put plain here m x in
    let e = c.put_alone.ensures in
    let held = subst (λ (q : Option QueuePair). Fits IsHeld s (standing x q)) c.in-None.is c.requires.held in
    subst (λ (q : Option QueuePair). PutsThere s t x q c.put_alone.new.own q i most c.put_alone.result c.args.told.now c.put_alone.new.told
    (own_puts by here m (stood x (queues_in s q)))) (sym c.in-None.is)
    (puts-alone s t x c.put_alone.new.own None i most c.put_alone.result c.args.told.now c.put_alone.new.told (by.puts here m) e.did e.notes owes.notes
    owes.number held.itself tt)
