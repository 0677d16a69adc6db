use Rattle.std.proofs.Common.{rules}
use Rattle.strm_script.proofs.looks.size.Goals as goal

pub returns : goal.returns
returns g c = search rules steps 100000
