use Rattle.strm_pair.proofs.pair.Pair.put_apart.Goals as goal

pub returns-in-Put : goal.returns-in-Put
returns-in-Put g c = rw c.in-Put.is c.make.ensures
