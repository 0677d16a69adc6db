use Rattle.strm_tests.proofs.head.steps.read.Goals as goal

pub returns : goal.returns
returns g c = c.read.ensures.ready
