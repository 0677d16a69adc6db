-- Both queues are ready, each on its list.
use Rattle.strm_pair.proofs.LdtermsMade.{lists-apart, read-ready}
use Rattle.strm_pair.proofs.images.made_kinds.pair_of.Goals as goal

pub returns-clause-ready : goal.returns-clause-ready
returns-clause-ready g c = record {
  read = read-ready c.queue_of-read.ensures.fills c.queue_of-write.ensures.fills;
  write = c.queue_of-write.ensures.fills.ready;
  apart = lists-apart c.queue_of-read.ensures.fills c.queue_of-write.ensures.fills;
}
