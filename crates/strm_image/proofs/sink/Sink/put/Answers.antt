use Rattle.std.proofs.Common.{rules}
use Rattle.strm_image.proofs.SinkRows.{put_is}
use Rattle.strm_image.proofs.sink.Sink.put.Goals as goal

pub returns : goal.returns
returns c =
    put_is c.args.bytes.now c.args.self.now c.replace.new.lent c.replace.result c.saturating_add-self.result
    c.replace.ensures.bytes c.replace.ensures.taken c.saturating_add-self.ensures (search rules)
