use Rattle.strm_vectors.proofs.checking.found_in.Goals as goal

pub returns : goal.returns
returns g c = c.in_ok-found.ensures
