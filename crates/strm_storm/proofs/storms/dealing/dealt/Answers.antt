use Rattle.std.proofs.Common.{rules, ◌≡◌, ◌∷◌}
use Rattle.strm_storm.proofs.Hands.{moved, pushed_hand, rest_of}
use Rattle.strm_storm.proofs.storms.dealing.dealt.Goals as goal

pub loop-hand-preserved : goal.loop-hand-preserved
loop-hand-preserved g c =
    let i = c.loop-hand.invariant in
    let is : c.loop-hand.hand-iterator.rest.items ≡ c.in-Some.hand ∷ c.next.new.self.rest.items = search rules in record {
      rest = rest_of c.args.system.now _ _ _ is i.rest;
      left = pushed_hand c.args.system.now _ _ _ c.in_ok-put.ensures.0 i.left c.in_ok-two.ensures.0;
      given = pushed_hand c.args.system.now _ _ _ c.in_ok-put.ensures.1 i.given c.in_ok-two.ensures.1;
      as_many_left = moved _ _ _ _ _ _ _ is c.in_ok-put.ensures.0 i.as_many_left;
      as_many_given = moved _ _ _ _ _ _ _ is c.in_ok-put.ensures.1 i.as_many_given;
    }
