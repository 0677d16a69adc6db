use Rattle.std.proofs.Common.{◌≡◌, ◌≤◌, ◌+◌, ◌*◌, drop}
use Rattle.strm_types.specs.Echo.{column_from}
use Rattle.strm_ldterm.proofs.echoes.column_from.Given as goal

abbrev pub invariant-loop-byte : goal.invariant-loop-byte
invariant-loop-byte l = record {
  near : l.column ≤ l.from + 8 * l.byte-index;
  same : column_from l.termios l.column (drop l.byte-index l.line) ≡ column_from l.termios l.from l.line;
}
