use Rattle.std.proofs.Common.{◌≡◌, ◌-◌, [], length}
use Rattle.strm_image.specs.Format.{at_end, gather_from}
use Rattle.strm_image.specs.Modules.{module_below, next_names}
use Rattle.strm_image.specs.ModuleTexts.{modules_now, names_now}
use Rattle.strm_image.proofs.modules.pass_modules.Given as goal

abbrev pub invariant-loop : goal.invariant-loop
invariant-loop l = record {
  told : gather_from next_names (module_below l.version) at_end (modules_now l.found.items) (names_now l.found.items) (l.count - l.counter) l.rest ≡ gather_from next_names (module_below l.version) at_end [] [] l.count l.text;
  long : length l.found.items ≡ l.counter;
}
