use Rattle.strm_tests.proofs.head.steps.read_vector.Goals as goal

pub returns : goal.returns
returns g c = c.read_vec.ensures.ready
