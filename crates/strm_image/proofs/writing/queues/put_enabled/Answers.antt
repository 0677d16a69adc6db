use Rattle.strm_image.proofs.SinkRows.{put_both}
use Rattle.strm_image.proofs.WrittenRows.{enabled_told}
use Rattle.strm_image.proofs.writing.queues.put_enabled.Goals as goal

pub returns : goal.returns
returns c = rw (c.put_names.ensures, c.put.ensures, enabled_told c.args.names.now) (put_both _ _ c.args.out.now)
