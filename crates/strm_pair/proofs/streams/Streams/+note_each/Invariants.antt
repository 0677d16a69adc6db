use Rattle.std.proofs.Common.{length}
use Rattle.strm_pair.proofs.streams.Streams.+note_each.Given as goal

abbrev pub decreases-note_each : goal.decreases-note_each
decreases-note_each l = length l.notes.now
