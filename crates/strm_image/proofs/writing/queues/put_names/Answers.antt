use Rattle.std.proofs.Common.{◌∙◌}
use Rattle.strm_image.specs.Image.{queue_name}
use Rattle.strm_image.proofs.SinkRows.{put_next}
use Rattle.strm_image.proofs.writing.queues.put_names.Goals as goal

pub loop-name-preserved : goal.loop-name-preserved
loop-name-preserved c = c.put_name.ensures ∙ put_next queue_name.text c.args.names.now c.loop-name.name-index _ c.args.out.now c.loop-name.out c.loop-name-test.true c.loop-name.invariant
