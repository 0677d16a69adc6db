use Rattle.strm_pair.proofs.Prelude.{◌≡◌, ◌-◌, List}
use Rattle.strm_pair.specs.Prelude.{Block, plain_flows, AreCounted, OnlyCounts, Second, read_flows, gather_from, first_flow}
use Rattle.strm_image.specs.Loads.{set_band}
use Rattle.strm_image.specs.Queues.{listed_behind, next_band}
use Rattle.strm_pair.proofs.FlowsSet.{AreFree}
use Rattle.strm_pair.proofs.images.made_queues.set_listed.Given as goal

abbrev pub invariant-loop : goal.invariant-loop
invariant-loop l = record {
  told : gather_from next_band (listed_behind (first_flow l.flows.queue)) set_band (plain_flows l.queue.flows) l.from (l.flows.count - l.counter) l.rest ≡ read_flows Second l.flows.queue l.flows.count l.flows.text.now;
  free : AreFree l.from (plain_flows l.queue.flows);
  counted : (q : List (List Block)) → AreCounted l.fn.queue.flows q → AreCounted l.queue.flows q;
  others : OnlyCounts l.fn.queue l.queue;
}
