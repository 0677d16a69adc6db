use Rattle.std.proofs.Common.{◌≡◌, drop, take}
use Rattle.strm_image.specs.Streams.{are_signals, signals_behind}
use Rattle.strm_image.proofs.streams.are_signals.Given as goal

abbrev pub invariant-loop-i : goal.invariant-loop-i
invariant-loop-i l = signals_behind (take l.i l.numbers) (drop l.i l.numbers) ≡ are_signals l.numbers
