use Rattle.std.proofs.Common.{◌≡◌, map, drop}
use Rattle.strm_script.specs.Named.{named, row_of}
use Rattle.strm_script.proofs.named.named.Given as goal

abbrev pub invariant-loop-row : goal.invariant-loop-row
invariant-loop-row g l = named (map row_of (drop l.row-index l.rows)) l.word ≡ named (map row_of l.rows) l.word
