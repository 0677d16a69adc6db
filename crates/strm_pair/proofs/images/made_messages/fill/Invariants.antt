use Rattle.std.proofs.Common.{◌-◌}
use Rattle.strm_pair.proofs.Refilled.{Filling}
use Rattle.strm_pair.proofs.images.made_messages.fill.Given as goal

abbrev pub invariant-loop : goal.invariant-loop
invariant-loop g l = record {
  filling : Filling l.messages (g.B.Blocks.value l.fn.store) (g.B.Blocks.value l.store) l.fn.queue l.queue l.rank (l.messages.count - l.counter) l.rest;
}
