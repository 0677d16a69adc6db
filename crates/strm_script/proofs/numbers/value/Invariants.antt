use Rattle.std.proofs.Common.{◌≡◌, ◌≤◌, drop}
use Rattle.strm_script.specs.ScriptReading.{number_from}
use Rattle.strm_script.proofs.numbers.value.Given as goal

abbrev pub invariant-loop-byte : goal.invariant-loop-byte
invariant-loop-byte l = (l.value ≤ 4294967295) × (number_from l.value (drop l.byte-index l.digits) ≡ number_from 0 l.digits)
