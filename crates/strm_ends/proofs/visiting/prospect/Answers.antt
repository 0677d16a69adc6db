-- No module of a user's own stands on an object's pair, so each enabled queue has a number.
use Rattle.strm_handle.proofs.Numbered.{numbered}
use Rattle.strm_ends.proofs.visiting.prospect.Goals as goal

pub number_at-requires : goal.number_at-requires
number_at-requires c = numbered c.enabled.result.now c.enabled.ensures.queues c.enabled.ensures.known
