use Rattle.std.proofs.Common.{rules, ◌≡◌, ◌∷◌}
use Rattle.strm_storm.proofs.Hands.{head_of, pushed_hand, rest_of}
use Rattle.strm_storm.proofs.storms.hands.gathered.Goals as goal

pub joined-requires-clause-two : goal.joined-requires-clause-two
joined-requires-clause-two g c =
    let is : c.loop-hand.rest.rest.items ≡ c.in-Some-next.other ∷ c.next-in-loop-hand.new.self.rest.items = c.in-Some-next.ensures.items in head_of c.args.system.now _ _ _ is c.loop-hand.invariant.second

pub loop-hand-preserved : goal.loop-hand-preserved
loop-hand-preserved g c =
    let first : c.loop-hand.hand-iterator.rest.items ≡ c.in-Some.hand ∷ c.next.new.self.rest.items = search rules in
    let second : c.loop-hand.rest.rest.items ≡ c.in-Some-next.other ∷ c.next-in-loop-hand.new.self.rest.items = c.in-Some-next.ensures.items in record {
      first = rest_of c.args.system.now _ _ _ first c.loop-hand.invariant.first;
      second = rest_of c.args.system.now _ _ _ second c.loop-hand.invariant.second;
      all = pushed_hand c.args.system.now _ _ _ c.in_ok-push.ensures.items c.loop-hand.invariant.all c.in_ok-one.ensures;
    }
