use Rattle.std.proofs.Common.{refl}
use Rattle.strm_script.proofs.script.end_of.Goals as goal

pub returns : goal.returns
returns g c = refl
