use Rattle.std.proofs.Common.{◌≡◌, ◌≤◌, ◌-◌, false, length, take}
use Rattle.std.specs.List.{AllByRecursion}
use Rattle.strm_types.specs.Echo.{is_control}
use Rattle.strm_ldterm.proofs.graphic.graphic_len.Given as goal

abbrev pub invariant-loop-at : goal.invariant-loop-at
invariant-loop-at l = (l.at ≤ length l.bytes) × AllByRecursion (λ b. is_control b ≡ false) (take l.at l.bytes)

abbrev pub decreases-loop-at : goal.decreases-loop-at
decreases-loop-at l = length l.bytes - l.at
