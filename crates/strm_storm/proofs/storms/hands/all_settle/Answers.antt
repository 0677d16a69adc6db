use Rattle.std.proofs.Common.{rules, ◌≡◌, ◌∷◌}
use Rattle.strm_storm.proofs.Hands.{rest_of}
use Rattle.strm_storm.proofs.storms.hands.all_settle.Goals as goal

pub loop-hand-preserved-then-not-settles : goal.loop-hand-preserved-then-not-settles
loop-hand-preserved-then-not-settles g c =
    let is : c.loop-hand.hand-iterator.rest.items ≡ c.in-Some.hand ∷ c.next.new.self.rest.items = search rules in rest_of c.args.system.now _ _ _ is c.loop-hand.invariant

pub loop-hand-preserved : goal.loop-hand-preserved
loop-hand-preserved g c =
    let is : c.loop-hand.hand-iterator.rest.items ≡ c.in-Some.hand ∷ c.next.new.self.rest.items = search rules in rest_of c.args.system.now _ _ _ is c.loop-hand.invariant
