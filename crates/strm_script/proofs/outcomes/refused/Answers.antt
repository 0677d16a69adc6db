use Rattle.std.proofs.Common.{refl}
use Rattle.strm_script.proofs.outcomes.refused.Goals as goal

pub returns : goal.returns
returns c = refl
