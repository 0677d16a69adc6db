-- Each band counts out what the flush has taken.
use Rattle.std.proofs.Common.{refl}
use Rattle.strm_queue.specs.Flows.{flushed_of}
use Rattle.strm_queue.specs.Flushes.{takes_all}
use Rattle.strm_queue.proofs.Flushed.{flushed-less}
use Rattle.strm_queue.proofs.Parts.{each-band, each-flows, others-few, first-few}
use Rattle.strm_queue.proofs.flows.Flows.flush.Goals as goal

pub flushed-self-inside-requires : goal.flushed-self-inside-requires
flushed-self-inside-requires c = first-few c.self.inside.first c.self.inside.others c.self.invariant

pub flush-requires : goal.flush-requires
flush-requires c = others-few c.self.inside.first c.self.inside.others c.self.invariant

pub returns-clause-each : goal.returns-clause-each
returns-clause-each c = rw (← c.self.view_is)
    (each-band (flushed_of (takes_all c.args.what)) c.self.inside.first c.flushed-self-inside.result c.self.inside.others c.flush.new.self c.flushed-self-inside.ensures c.flush.ensures.each)

pub invariant_of-self : goal.invariant_of-self
invariant_of-self c =
    each-flows (flushed_of (takes_all c.args.what)) c.self.inside.first c.flushed-self-inside.result c.self.inside.others c.flush.new.self c.flushed-self-inside.ensures c.flush.ensures.each (flushed-less (takes_all c.args.what)) refl c.flush.ensures.long c.self.invariant
