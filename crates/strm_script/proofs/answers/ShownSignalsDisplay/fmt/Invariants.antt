use Rattle.std.proofs.Common.{take}
use Rattle.std.specs.List.{flat_map}
use Rattle.std.specs.Fmt.{HasWritten, IsPlainFormatter}
use Rattle.strm_script.specs.ScriptAnswers.{spaced_signal}
use Rattle.strm_script.proofs.answers.ShownSignalsDisplay.fmt.Given as goal

abbrev pub invariant-loop-signal : goal.invariant-loop-signal
invariant-loop-signal g l =
    IsPlainFormatter l.fn.f → HasWritten g.W.Write.write_str_gives l.fn.f (flat_map spaced_signal (take l.signal-index l.signals)) l.f
