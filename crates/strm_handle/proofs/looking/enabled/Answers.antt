-- No module of a user's own stands on a handle's pair, so each enabled queue has a number.
use Rattle.strm_handle.proofs.Numbered.{numbered}
use Rattle.strm_handle.proofs.looking.enabled.Goals as goal

pub number_at-queue-requires : goal.number_at-queue-requires
number_at-queue-requires c = numbered c.enabled.result.now c.enabled.ensures.queues c.enabled.ensures.known
