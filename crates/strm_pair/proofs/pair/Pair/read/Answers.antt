use Rattle.strm_pair.proofs.pair.Pair.read.Goals as goal

pub returns : goal.returns
returns g c = c.make.ensures
