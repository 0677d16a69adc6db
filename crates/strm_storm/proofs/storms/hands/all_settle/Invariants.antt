use Rattle.strm_storm.specs.Storms.{AreHands}
use Rattle.strm_storm.proofs.storms.hands.all_settle.Given as goal

abbrev pub invariant-loop-hand : goal.invariant-loop-hand
invariant-loop-hand g l = AreHands l.system l.hand-iterator.rest.items
