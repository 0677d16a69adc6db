use Rattle.std.proofs.Common.{◌≡◌, ◌≤◌, ◌*◌, ◌^◌, length, take}
use Rattle.std.specs.List.{sum_by}
use Rattle.strm_laws.specs.Stacked.{module_line}
use Rattle.strm_image.specs.ModuleTexts.{modules_now}
use Rattle.strm_image.proofs.loads.line_lengths.Given as goal

abbrev pub invariant-loop-module : goal.invariant-loop-module
invariant-loop-module l = record { told : l.bytes ≡ sum_by (λ p. length (module_line p)) (modules_now (take l.module-index l.found)); few : l.bytes ≤ l.module-index * 2 ^ 63 }
