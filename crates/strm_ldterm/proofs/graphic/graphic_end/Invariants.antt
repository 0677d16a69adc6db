use Rattle.std.proofs.Common.{◌≡◌, false, take}
use Rattle.std.specs.List.{AllByRecursion}
use Rattle.strm_types.specs.Echo.{is_control}
use Rattle.strm_ldterm.proofs.graphic.graphic_end.Given as goal

abbrev pub invariant-loop-at : goal.invariant-loop-at
invariant-loop-at l = AllByRecursion (λ b. is_control b ≡ false) (take l.at l.bytes)
