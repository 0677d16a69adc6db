-- What the store frees is counted out of the band.
use Rattle.std.proofs.Common.{arith, false}
use Rattle.std.specs.Prelude.{Some}
use Rattle.strm_blocks.specs.Blocks.{list_at}
use Rattle.strm_blocks.specs.Outcomes.{flushed}
use Rattle.strm_queue.proofs.Stored.{list-placed}
use Rattle.strm_queue.proofs.Flushed.{counted-band-flushed}
use Rattle.strm_queue.proofs.Marks.{set-flushed}
use Rattle.strm_queue.proofs.queue.Queue.flushband.Goals as goal

pub returns-clause-counted : goal.returns-clause-counted
returns-clause-counted g c =
    let s = g.B.Blocks.value c.args.store.now in
    let k = c.args.self.now.list in
    let left = flushed (record { all = false; band = Some c.args.band }) (list_at s k) in
    let list_is = c.see_empty.ensures.list in
    rw (c.see_empty.ensures.flows, list_is, c.drop_where.ensures, list-placed s k left (omega (arith, c.audit.ensures.eight, c.args.self.now.on_list)), c.flush_band.ensures.flows)
    (counted-band-flushed c.args.self.now.flows c.args.band (list_at s k) c.flush_band.ensures.low c.requires.counted)

pub returns-clause-flows : goal.returns-clause-flows
returns-clause-flows g c = rw (c.see_empty.ensures.flows, c.flush_band.ensures.flows) (set-flushed c.args.self.now.flows c.args.band.0 false)

pub returns-clause-flushed : goal.returns-clause-flushed
returns-clause-flushed g c = c.drop_where.ensures
