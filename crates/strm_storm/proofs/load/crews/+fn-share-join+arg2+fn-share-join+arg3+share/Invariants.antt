use Rattle.strm_storm.proofs.load.crews.+fn-share-join+arg2+fn-share-join+arg3+share.Given as goal

abbrev pub decreases-join+arg2 : goal.decreases-join+arg2
decreases-join+arg2 g l = l.few.threads

abbrev pub decreases-join+arg3 : goal.decreases-join+arg3
decreases-join+arg3 g l = l.rest.threads

abbrev pub decreases-share : goal.decreases-share
decreases-share g l = l.crew.threads
