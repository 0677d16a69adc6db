use Rattle.strm_ldterm.proofs.Prelude.{◌≡◌, ◌≤◌, ◌+◌, ◌*◌, length, drop, flat_map}
use Rattle.strm_ldterm.specs.Echoes.{shown}
use Rattle.strm_ldterm.proofs.echoes.shown_len.Given as goal

abbrev pub invariant-loop-byte : goal.invariant-loop-byte
invariant-loop-byte l = record {
  few : l.len ≤ 2 * l.byte-index;
  same : l.len + length (flat_map (shown l.controls) (drop l.byte-index l.line)) ≡ length (flat_map (shown l.controls) l.line);
}
