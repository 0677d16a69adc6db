use Rattle.strm_types.specs.Message.{rank_of}
use Rattle.strm_types.proofs.Ranked.{lane-put_back, Ordered-put_back}
use Rattle.strm_laws.proofs.laws.put_back_leads_its_lane.Goals as goal

pub returns-clause-lanes : goal.returns-clause-lanes
returns-clause-lanes g c = λ m q r. lane-put_back rank_of r m q

pub returns-clause-order : goal.returns-clause-order
returns-clause-order g c = λ m q o. Ordered-put_back rank_of m q o
