use Rattle.std.proofs.Common.{◌≡◌, ◌+◌, length}
use Rattle.strm_storm.specs.Storms.{AreHands}
use Rattle.strm_storm.proofs.storms.dealing.dealt.Given as goal

abbrev pub invariant-loop-hand : goal.invariant-loop-hand
invariant-loop-hand g l = record {
  rest : AreHands l.system l.hand-iterator.rest.items;
  left : AreHands l.system l.both.0.items;
  given : AreHands l.system l.both.1.items;
  as_many_left : length l.both.0.items + length l.hand-iterator.rest.items ≡ length l.fn.hands.items;
  as_many_given : length l.both.1.items + length l.hand-iterator.rest.items ≡ length l.fn.hands.items;
}
