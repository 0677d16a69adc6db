use Rattle.std.proofs.Common.{◌≡◌, ◌-◌, ◌≤◌, length, take}
use Rattle.std.specs.Io.KnownBytes.{Appends}
use Rattle.strm_script.specs.Faults.{sink_failed}
use Rattle.strm_script.proofs.sink.Sink.write_out.Given as goal

abbrev pub invariant-loop-done : goal.invariant-loop-done
invariant-loop-done g l =
    (l.done ≤ length l.bytes) × Appends (g.W.Write.contents l.fn.self.writer) (g.W.Write.contents l.self.writer) (take l.done l.bytes)
    × (sink_failed l.self ≡ sink_failed l.fn.self)

abbrev pub decreases-loop-done : goal.decreases-loop-done
decreases-loop-done g l = length l.bytes - l.done
