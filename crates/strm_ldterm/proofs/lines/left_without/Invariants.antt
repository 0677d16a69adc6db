use Rattle.std.proofs.Common.{◌≡◌, ◌≤◌, not, length, take}
use Rattle.std.specs.Prelude.{if◌then◌else◌}
use Rattle.strm_types.specs.Lines.{is_blank, without_end}
use Rattle.strm_ldterm.proofs.lines.left_without.Given as goal

abbrev pub invariant-loop-left : goal.invariant-loop-left
invariant-loop-left l = record {
  within : l.left ≤ length l.line;
  same : without_end (λ c. if l.blanks then is_blank c else not (is_blank c)) (take l.left l.line) ≡ without_end (λ c. if l.blanks then is_blank c else not (is_blank c)) l.line;
}

abbrev pub decreases-loop-left : goal.decreases-loop-left
decreases-loop-left l = l.left
