use Rattle.std.proofs.Common.{◌≡◌, drop}
use Rattle.strm_image.specs.Modules.{has_name}
use Rattle.strm_image.specs.ModuleTexts.{names_now}
use Rattle.strm_image.proofs.modules.has_name.Given as goal

abbrev pub invariant-loop-module : goal.invariant-loop-module
invariant-loop-module l = has_name l.name (names_now (drop l.module-index l.found)) ≡ has_name l.name (names_now l.found)
