-- Nothing is listed in front of the first band, and no writer waits in a new queue.
use Rattle.std.proofs.Common.{◌≡◌, ◌-◌, refl, arith}
use Rattle.strm_queue.specs.Flows.{plain_flows}
use Rattle.strm_pair.proofs.FlowsSet.{new-free}
use Rattle.strm_pair.proofs.images.made_queues.set_listed.Goals as goal

pub loop-init : goal.loop-init
loop-init c =
    let all : c.args.flows.now.count - 0 ≡ c.args.flows.now.count = omega arith in
    record {
      told = rw (all, c.requires.new) refl;
      free = new-free c.args.flows.now.queue (plain_flows c.args.queue.now.flows) c.requires.new;
      counted = λ q is. is;
      others = record { list = refl; want_read = refl; no_enable = refl };
    }
