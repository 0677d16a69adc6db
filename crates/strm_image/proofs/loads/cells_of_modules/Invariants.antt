use Rattle.std.proofs.Common.{◌≡◌, ◌≤◌, ◌*◌, ◌^◌, take}
use Rattle.std.specs.List.{sum_by}
use Rattle.strm_image.specs.Counts.{cells_at}
use Rattle.strm_image.specs.ModuleTexts.{modules_now}
use Rattle.strm_image.proofs.loads.cells_of_modules.Given as goal

abbrev pub invariant-loop-module : goal.invariant-loop-module
invariant-loop-module l = record { told : l.cells ≡ sum_by (cells_at l.way) (modules_now (take l.module-index l.found)); few : l.cells ≤ l.module-index * 2 ^ 65 }
