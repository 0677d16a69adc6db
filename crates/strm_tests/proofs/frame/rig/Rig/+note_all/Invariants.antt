use Rattle.std.proofs.Common.{length}
use Rattle.strm_tests.proofs.frame.rig.Rig.+note_all.Given as goal

abbrev pub decreases-note_all : goal.decreases-note_all
decreases-note_all l = length l.notes.now
