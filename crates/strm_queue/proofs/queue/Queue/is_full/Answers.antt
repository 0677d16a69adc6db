use Rattle.std.proofs.Common.{ap, ◌∙◌}
use Rattle.std.specs.Prelude.{nat_le}
use Rattle.strm_queue.specs.Kept.{flow_at}
use Rattle.strm_queue.proofs.Counted.{count-kept}
use Rattle.strm_queue.proofs.queue.Queue.is_full.Goals as goal

pub returns-clause-full : goal.returns-clause-full
returns-clause-full c = λ q is.
    let band = c.args.band.0 in
    let f = flow_at band c.args.self.now.flows in
    c.is_full.ensures.full ∙ (is.each band c.is_full.ensures.low).marked ∙ ap (nat_le f.high) (count-kept band f q (is.each band c.is_full.ensures.low))
