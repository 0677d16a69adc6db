-- What the store frees is counted out of each band.
use Rattle.std.proofs.Common.{arith}
use Rattle.std.specs.Prelude.{None}
use Rattle.strm_blocks.specs.Blocks.{list_at}
use Rattle.strm_blocks.specs.Outcomes.{flushed}
use Rattle.strm_queue.specs.Flushes.{takes_all}
use Rattle.strm_queue.proofs.Stored.{list-placed}
use Rattle.strm_queue.proofs.Flushed.{counted-flushed}
use Rattle.strm_queue.proofs.Marks.{all-flushed}
use Rattle.strm_queue.proofs.queue.Queue.flushq.Goals as goal

pub returns-clause-counted : goal.returns-clause-counted
returns-clause-counted g c =
    let s = g.B.Blocks.value c.args.store.now in
    let k = c.args.self.now.list in
    let left = flushed (record { all = takes_all c.args.what; band = None }) (list_at s k) in
    let list_is = c.see_empty.ensures.list in
    rw (c.see_empty.ensures.flows, list_is, c.drop_where.ensures, c.takes_all.ensures, list-placed s k left (omega (arith, c.audit.ensures.eight, c.args.self.now.on_list)))
    (counted-flushed (takes_all c.args.what) c.args.self.now.flows c.flush.new.self (list_at s k) c.flush.ensures.eight c.flush.ensures.each c.requires)

pub returns-clause-flows : goal.returns-clause-flows
returns-clause-flows g c = rw c.see_empty.ensures.flows (all-flushed (takes_all c.args.what) c.args.self.now.flows c.flush.new.self c.flush.ensures.eight (λ band lt. c.flush.ensures.each band (omega (arith, lt, c.requires.eight))))

pub returns-clause-flushed : goal.returns-clause-flushed
returns-clause-flushed g c = rw c.takes_all.ensures at c.drop_where.ensures
