use Rattle.strm_storm.specs.Storms.{AreHands}
use Rattle.strm_storm.proofs.storms.hands.gathered.Given as goal

abbrev pub invariant-loop-hand : goal.invariant-loop-hand
invariant-loop-hand g l = record {
  first : AreHands l.system l.hand-iterator.rest.items;
  second : AreHands l.system l.rest.rest.items;
  all : AreHands l.system l.all.items;
}
