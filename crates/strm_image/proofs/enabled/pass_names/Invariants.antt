use Rattle.std.proofs.Common.{◌≡◌, ◌-◌, [], length}
use Rattle.strm_image.specs.Format.{at_end, gather_from}
use Rattle.strm_image.specs.Image.{enabled_behind, next_enabled}
use Rattle.strm_image.proofs.enabled.pass_names.Given as goal

abbrev pub invariant-loop : goal.invariant-loop
invariant-loop l = record {
  told : gather_from next_enabled enabled_behind at_end l.found.items l.found.items (l.count - l.counter) l.rest ≡ gather_from next_enabled enabled_behind at_end [] [] l.count l.text;
  long : length l.found.items ≡ l.counter;
}
