use Rattle.strm_pair.proofs.streams.Streams.+take_all.Given as goal

abbrev pub decreases-take_all : goal.decreases-take_all
decreases-take_all g l = l.count
