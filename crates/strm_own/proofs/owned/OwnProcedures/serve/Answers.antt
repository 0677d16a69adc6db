-- With queues or without.
use Rattle.std.proofs.Common.{arith, subst, sym}
use Rattle.std.specs.Prelude.{Option, Some}
use Rattle.strm_types.specs.Cells.{plain}
use Rattle.strm_types.specs.OwnStands.{own_serves}
use Rattle.strm_types.specs.Standings.{stood}
use Rattle.strm_laws.specs.Behaviours.{own_by}
use Rattle.strm_frame.specs.Standings.{Fits, queues_in, standing}
use Rattle.strm_frame.specs.declared.queue_pair.QueuePair.{QueuePair}
use Rattle.strm_own.specs.Stands.{IsHeld, ServesThere}
use Rattle.strm_own.proofs.Queueing.{held-pair}
use Rattle.strm_own.proofs.FirstServed.{serves-bare}
use Rattle.strm_own.proofs.owned.OwnProcedures.serve.Goals as goal

pub serve-requires-clause-ready : goal.serve-requires-clause-ready
serve-requires-clause-ready g c = (held-pair (g.B.Blocks.value c.args.store.now) c.args.self.now c.args.queues.now c.in-Some.pair c.in-Some.is c.requires.held).0

pub serve-requires-clause-has : goal.serve-requires-clause-has
serve-requires-clause-has g c = (held-pair (g.B.Blocks.value c.args.store.now) c.args.self.now c.args.queues.now c.in-Some.pair c.in-Some.is c.requires.held).1

pub returns-in-Some : goal.returns-in-Some
returns-in-Some g c =
    let s = g.B.Blocks.value c.args.store.now in
    let x = c.args.self.now in
    let by = own_by g.M.Behaves.does plain in
    subst (λ (q : Option QueuePair). ServesThere s (g.B.Blocks.value c.serve.new.store) x q c.serve.new.own (Some c.serve.new.pair)
    c.serve.result c.args.told.now c.serve.new.told (own_serves by c.args.here (stood x (queues_in s q)))) (sym c.in-Some.is) c.serve.ensures

pub returns-in-None : goal.returns-in-None
returns-in-None g c =
    let s = g.B.Blocks.value c.args.store.now in
    let x = c.args.self.now in
    let by = own_by g.M.Behaves.does plain in
    let u = c.unserved in
    let held = subst (λ (q : Option QueuePair). Fits IsHeld s (standing x q)) c.in-None.is c.requires.held in
    subst (λ (q : Option QueuePair). ServesThere s s x q x q u.result c.args.told.now c.args.told.now (own_serves by c.args.here (stood x (queues_in s q))))
    (sym c.in-None.is)
    (serves-bare s x c.args.here u.result c.args.told.now by held u.ensures.notes u.ensures.sent u.ensures.bytes u.ensures.stopped u.ensures.again)
