-- The turn ends with nothing taken.
use Rattle.strm_pair.proofs.streams.Streams.stay.Goals as goal

pub returns-clause-state : goal.returns-clause-state
returns-clause-state g c = c.end_queue.ensures.state
