use Rattle.std.proofs.Common.{◌≡◌, ◌≤◌, ◌*◌, ◌^◌, take}
use Rattle.std.specs.List.{sum_by}
use Rattle.strm_image.specs.Counts.{module_blocks}
use Rattle.strm_image.specs.ModuleTexts.{modules_now}
use Rattle.strm_image.proofs.loads.blocks_of_modules.Given as goal

abbrev pub invariant-loop-module : goal.invariant-loop-module
invariant-loop-module l = record { told : l.blocks ≡ sum_by module_blocks (modules_now (take l.module-index l.found)); few : l.blocks ≤ l.module-index * 2 ^ 58 }
