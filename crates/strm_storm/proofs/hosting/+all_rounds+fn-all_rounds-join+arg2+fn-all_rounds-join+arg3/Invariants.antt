use Rattle.strm_storm.proofs.hosting.+all_rounds+fn-all_rounds-join+arg2+fn-all_rounds-join+arg3.Given as goal

abbrev pub decreases-join+arg2 : goal.decreases-join+arg2
decreases-join+arg2 g l = l.few.threads

abbrev pub decreases-join+arg3 : goal.decreases-join+arg3
decreases-join+arg3 g l = l.rest.threads

abbrev pub decreases-all_rounds : goal.decreases-all_rounds
decreases-all_rounds g l = l.share.threads
