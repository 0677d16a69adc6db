use Rattle.std.proofs.Common.{◌≡◌, drop}
use Rattle.strm_types.specs.Names.{is_enabled}
use Rattle.strm_frame.proofs.enabled.is_among.Given as goal

abbrev pub invariant-loop-other : goal.invariant-loop-other
invariant-loop-other l = is_enabled l.name (drop l.other-index l.names) ≡ is_enabled l.name l.names
