use Rattle.std.proofs.Common.{◌≡◌, ◌<◌, length}
use Rattle.strm_storm.specs.Storms.{AreHands, all_counted}
use Rattle.strm_storm.proofs.storms.crew.work.Given as goal

abbrev pub invariant-loop-made : goal.invariant-loop-made
invariant-loop-made g l = record {
  hands : AreHands l.system l.hands.items;
  as_many : length l.hands.items ≡ l.pairs;
  some : 0 < l.pairs;
  all : all_counted l.counts ≡ l.made;
}
