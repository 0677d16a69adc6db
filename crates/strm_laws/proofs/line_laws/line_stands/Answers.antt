use Rattle.strm_laws.proofs.Standing.{line-stands}
use Rattle.strm_laws.proofs.line_laws.line_stands.Goals as goal

pub returns : goal.returns
returns g c = λ blank edits. line-stands blank edits
