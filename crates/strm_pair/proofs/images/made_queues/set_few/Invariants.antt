use Rattle.strm_pair.proofs.Prelude.{◌≡◌, ◌-◌, List, map}
use Rattle.strm_pair.specs.Prelude.{BANDS, Block, plain_flows, AreCounted, OnlyCounts, flow_now, behind_last}
use Rattle.strm_pair.proofs.FlowsSet.{so_far}
use Rattle.strm_pair.proofs.images.made_queues.set_few.Given as goal

abbrev pub invariant-loop-band : goal.invariant-loop-band
invariant-loop-band l = record {
  flows : plain_flows l.queue.flows ≡ so_far (map flow_now l.few) (behind_last (map flow_now l.few)) l.band (BANDS - l.band);
  counted : (q : List (List Block)) → AreCounted l.fn.queue.flows q → AreCounted l.queue.flows q;
  others : OnlyCounts l.fn.queue l.queue;
}
