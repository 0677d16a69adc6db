use Rattle.strm_laws.proofs.OutputServes.{others-pass, unposted-passes}
use Rattle.strm_laws.proofs.output_laws.output_passes_unposted.Goals as goal

pub returns-clause-unposted : goal.returns-clause-unposted
returns-clause-unposted g c = λ cells here stop made ms l is. unposted-passes cells here stop made ms l is

pub returns-clause-others : goal.returns-clause-others
returns-clause-others g c = λ cells here stop made m rest l is. others-pass cells here stop made m rest l is
