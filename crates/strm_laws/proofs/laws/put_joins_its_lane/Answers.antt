use Rattle.strm_types.specs.Message.{rank_of}
use Rattle.strm_types.proofs.Ranked.{lane-put, Ordered-put}
use Rattle.strm_laws.proofs.laws.put_joins_its_lane.Goals as goal

pub returns-clause-lanes : goal.returns-clause-lanes
returns-clause-lanes g c = λ m q r o. lane-put rank_of r m q o

pub returns-clause-order : goal.returns-clause-order
returns-clause-order g c = λ m q o. Ordered-put rank_of m q o
