use Rattle.strm_tests.proofs.head.steps.get.Goals as goal

pub returns : goal.returns
returns g c = c.getmsg.ensures.ready
