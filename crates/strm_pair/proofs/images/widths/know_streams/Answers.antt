use Rattle.strm_pair.specs.Prelude.{Side, Master, Slave, get, map_both, StoreValue}
use Rattle.strm_image.specs.HasImage.{HasNumbers}
use Rattle.strm_pair.specs.Streams.{stream_in}
use Rattle.strm_pair.proofs.images.widths.know_streams.Goals as goal

pub returns : goal.returns
returns c = at
  where
    at : (s : StoreValue) (side : Side) → HasNumbers (get side (map_both (stream_in s) c.args.streams.now.ends))
    at s Master = c.know_end.ensures s
    at s Slave = c.know_end-2.ensures s
