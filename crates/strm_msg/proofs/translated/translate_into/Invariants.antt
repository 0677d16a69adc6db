use Rattle.std.proofs.Common.{◌≡◌, take}
use Rattle.strm_msg.specs.Translated.{translated}
use Rattle.strm_msg.proofs.translated.translate_into.Given as goal

abbrev pub invariant-loop-at : goal.invariant-loop-at
invariant-loop-at l = take l.at l.buffer ≡ translated l.table (take l.at l.bytes)
