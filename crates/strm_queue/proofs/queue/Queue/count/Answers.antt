use Rattle.std.proofs.Common.{◌≡◌, ◌∙◌, rules}
use Rattle.strm_queue.specs.Flows.{count_in}
use Rattle.strm_queue.specs.Kept.{flow_at}
use Rattle.strm_queue.proofs.Counted.{count-kept}
use Rattle.strm_queue.proofs.queue.Queue.count.Goals as goal

pub returns-clause-count : goal.returns-clause-count
returns-clause-count c = λ q is.
    let band = c.args.band.0 in
    let kept : c.count.result ≡ count_in (flow_at band c.args.self.now.flows) = search rules in
    kept ∙ count-kept band (flow_at band c.args.self.now.flows) q (is.each band c.at.ensures.low)
