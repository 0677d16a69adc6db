use Rattle.std.proofs.Common.{◌≡◌, drop}
use Rattle.strm_types.specs.Names as names
use Rattle.strm_image.proofs.enabled.is_enabled.Given as goal

abbrev pub invariant-loop-other : goal.invariant-loop-other
invariant-loop-other l = names.is_enabled l.name (drop l.other-index l.before) ≡ names.is_enabled l.name l.before
