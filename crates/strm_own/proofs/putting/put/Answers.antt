-- Beside what was done, queues are enabled whose first message goes anew.
use Rattle.strm_types.specs.Cells.{plain}
use Rattle.strm_blocks.specs.Blocks.{token}
use Rattle.strm_laws.specs.Behaviours.{own_by}
use Rattle.strm_own.proofs.Waking.{puts-woken}
use Rattle.strm_own.proofs.putting.put.Goals as goal

pub wake-requires-clause-ready : goal.wake-requires-clause-ready
wake-requires-clause-ready g c = c.act-acts.ensures.did.held.queues

pub returns : goal.returns
returns g c =
    let s = g.B.Blocks.value c.args.store.now in
    let t = g.B.Blocks.value c.act-acts.new.store in
    let before = c.both_ask-before in
    puts-woken (own_by g.M.Behaves.does plain) s t c.args.own.now c.act-acts.new.own c.args.pair.now c.act-acts.new.pair (token c.args.message) _
    c.act-acts.result c.wake.result c.args.told.now c.act-acts.new.told _ c.act-acts.ensures.did c.wake.ensures.sent before.result.read before.result.write
    before.ensures.read before.ensures.write c.wake.ensures.notes
