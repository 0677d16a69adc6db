use Rattle.strm_minors.specs.Openers.{IsOf}
use Rattle.strm_storm.specs.Storms.{AreOf}
use Rattle.strm_storm.proofs.storms.dealing.all_opened.Given as goal

abbrev pub invariant-loop-made : goal.invariant-loop-made
invariant-loop-made g l = record {
  opener : IsOf l.system.minors l.opener;
  masters : AreOf l.system l.made l.both.0.items;
  slaves : AreOf l.system l.made l.both.1.items;
}
