use Rattle.std.proofs.Common.{◌≡◌}
use Rattle.strm_script.proofs.Readings.{QuotedTo}
use Rattle.strm_script.proofs.texts.quoted_len.Given as goal

abbrev pub invariant-loop-byte : goal.invariant-loop-byte
invariant-loop-byte l = (l.len ≡ l.byte-index) × QuotedTo l.escaped l.byte-index l.bytes
