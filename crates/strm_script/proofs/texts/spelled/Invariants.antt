use Rattle.std.proofs.Common.{◌≤◌, ◌-◌, length}
use Rattle.strm_script.specs.Modes.{mode_of, IsMode}
use Rattle.strm_script.proofs.Readings.{TextTo}
use Rattle.strm_script.proofs.texts.spelled.Given as goal

abbrev pub invariant-loop-done : goal.invariant-loop-done
invariant-loop-done l = (l.done ≤ length l.bytes) × IsMode l.mode × TextTo (mode_of l.mode) l.text.items l.done l.bytes

abbrev pub decreases-loop-done : goal.decreases-loop-done
decreases-loop-done l = length l.bytes - l.done
