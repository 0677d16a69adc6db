use Rattle.std.proofs.Common.{arith}
use Rattle.strm_image.specs.Loads.{add_message}
use Rattle.strm_image.specs.Messages.{message_behind, next_rank}
use Rattle.strm_image.specs.Texts.{message_now}
use Rattle.strm_image.proofs.Formats.{gather_more}
use Rattle.strm_image.proofs.messages.pass.Goals as goal

pub loop-preserved : goal.loop-preserved
loop-preserved c = record {
  told = rw (c.blocks-blocks.ensures.value, c.cells.ensures.value, c.rank-rank.ensures) (gather_more next_rank (message_behind c.args.version c.args.queue) add_message (record { blocks = c.loop.blocks; cells = c.loop.cells }) c.loop.rank c.args.count c.loop.counter c.loop.rest.now (message_now c.in_ok-message.message, c.in_ok-message.after.now) _ c.loop-test.true c.in_ok-message.ensures.read c.loop.invariant.told);
  few = omega (arith, c.loop.invariant.few, c.blocks-blocks.ensures.few);
  short = omega (arith, c.loop.invariant.short, c.cells.ensures.few);
}
