use Rattle.strm_storm.specs.Rounds.{AreEnds}
use Rattle.strm_storm.proofs.load.crews.rounds.Given as goal

abbrev pub invariant-loop : goal.invariant-loop
invariant-loop g l = AreEnds l.system l.ends
