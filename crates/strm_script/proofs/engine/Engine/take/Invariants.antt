use Rattle.std.proofs.Common.{◌≤◌, ◌+◌, take}
use Rattle.strm_script.specs.Sessions.{Took}
use Rattle.strm_script.specs.Steps.{value_of}
use Rattle.strm_script.proofs.engine.Engine.take.Given as goal

abbrev pub invariant-loop-byte : goal.invariant-loop-byte
invariant-loop-byte g l = Took (value_of l.fn.self) (value_of l.self) (take l.byte-index l.bytes) × (l.self.lines ≤ l.fn.self.lines + l.byte-index)
