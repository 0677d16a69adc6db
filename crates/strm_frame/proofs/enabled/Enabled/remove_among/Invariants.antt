use Rattle.std.proofs.Common.{◌≡◌, ◌≤◌, length, take}
use Rattle.strm_types.specs.Names.{without}
use Rattle.strm_frame.proofs.enabled.Enabled.remove_among.Given as goal

abbrev pub invariant-loop-other : goal.invariant-loop-other
invariant-loop-other l = record {
  rest : l.rest.items ≡ without l.name (take l.other-index l.other-items);
  few : length l.rest.items ≤ l.other-index;
}
