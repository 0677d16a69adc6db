use Rattle.strm_laws.proofs.Lanes.{count-lanes-zero, count-lane}
use Rattle.strm_laws.proofs.laws.count_is_that_of_its_lanes.Goals as goal

pub returns-clause-zero : goal.returns-clause-zero
returns-clause-zero g c = λ q all. count-lanes-zero q all

pub returns-clause-others : goal.returns-clause-others
returns-clause-others g c = λ band q all above below. count-lane band q all above below
