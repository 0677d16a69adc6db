use Rattle.std.proofs.Common.{◌≡◌, ◌≤◌, ◌-◌, ◌*◌}
use Rattle.strm_types.specs.declared.limits.TheConstants.{HIGH_PRIORITY_RANK}
use Rattle.strm_image.specs.Format.{gather_from}
use Rattle.strm_image.specs.Loads.{add_message, no_load}
use Rattle.strm_image.specs.Messages.{message_behind, next_rank}
use Rattle.strm_image.proofs.messages.pass.Given as goal

abbrev pub invariant-loop : goal.invariant-loop
invariant-loop l = record {
  told : gather_from next_rank (message_behind l.version l.queue) add_message (record { blocks = l.blocks; cells = l.cells }) l.rank (l.count - l.counter) l.rest ≡ gather_from next_rank (message_behind l.version l.queue) add_message no_load HIGH_PRIORITY_RANK l.count l.text;
  few : l.blocks ≤ l.counter * 33554432;
  short : l.cells ≤ l.counter * 8589934592;
}
