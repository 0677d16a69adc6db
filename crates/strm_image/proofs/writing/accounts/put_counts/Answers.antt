use Rattle.std.proofs.Common.{◌∙◌}
use Rattle.strm_image.specs.Format.{u64}
use Rattle.strm_image.proofs.SinkRows.{put_next}
use Rattle.strm_image.proofs.writing.accounts.put_counts.Goals as goal

pub loop-count-preserved : goal.loop-count-preserved
loop-count-preserved c = c.put_u64.ensures ∙ put_next u64.text c.args.counts.now c.loop-count.count-index 0 c.args.out.now c.loop-count.out c.loop-count-test.true c.loop-count.invariant
