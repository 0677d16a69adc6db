use Rattle.strm_handle.specs.Outcomes.{RanAt}
use Rattle.strm_handle.proofs.kept.Kept.run_anew.Given as goal

abbrev pub invariant-loop-made : goal.invariant-loop-made
invariant-loop-made l = RanAt l.made l.fn.self l.self
