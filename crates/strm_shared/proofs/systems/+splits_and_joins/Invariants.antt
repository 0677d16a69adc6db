use Rattle.strm_shared.proofs.systems.+splits_and_joins.Given as goal

abbrev pub decreases-splits_and_joins : goal.decreases-splits_and_joins
decreases-splits_and_joins g l = l.times
