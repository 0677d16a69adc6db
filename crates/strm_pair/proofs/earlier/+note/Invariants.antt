use Rattle.std.proofs.Common.{length}
use Rattle.strm_pair.proofs.earlier.+note.Given as goal

-- proposed from what the function passes where it calls itself
abbrev pub decreases-note : goal.decreases-note
decreases-note l = length l.notes.now
