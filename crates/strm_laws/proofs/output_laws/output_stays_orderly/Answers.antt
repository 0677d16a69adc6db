use Rattle.strm_laws.proofs.OutputServes.{output-orderly}
use Rattle.strm_laws.proofs.output_laws.output_stays_orderly.Goals as goal

pub returns : goal.returns
returns g c = λ cells here stop made ms l is none. output-orderly cells here stop made ms l is none
