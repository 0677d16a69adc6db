use Rattle.strm_storm.proofs.Hands.{pushed}
use Rattle.strm_storm.proofs.storms.dealing.all_opened.Goals as goal

pub loop-made-preserved : goal.loop-made-preserved
loop-made-preserved g c = let i = c.loop-made.invariant in record {
  opener = c.new_hands.ensures.opener;
  masters = pushed c.args.system.now c.loop-made.made _ _ _ c.in_ok-put.ensures.0 i.masters c.in_ok-two.ensures.ends.0;
  slaves = pushed c.args.system.now c.loop-made.made _ _ _ c.in_ok-put.ensures.1 i.slaves c.in_ok-two.ensures.ends.1;
}
