use Rattle.strm_types.specs.Message.{rank_of}
use Rattle.strm_types.proofs.Ranked.{lanes_down-whole}
use Rattle.strm_laws.proofs.laws.queue_is_its_lanes.Goals as goal

pub returns : goal.returns
returns g c = λ top q o all. lanes_down-whole rank_of top q o all
