-- The other side stays.
use Rattle.strm_pair.specs.Prelude.{place_past, waits_on}
use Rattle.strm_pair.specs.Lists.{first_list}
use Rattle.strm_pair.proofs.Becoming.{side-becomes}
use Rattle.strm_pair.proofs.streams.Streams.wait_past.Goals as goal

pub returns : goal.returns
returns c =
    side-becomes c.args.side c.args.self.now c.get_mut.result.now c.get_mut.ensures.value c.wait_past.new.self (λ t. waits_on c.args.way c.args.band.0 (place_past c.args.way c.args.at t.modules) t) c.wait_past.ensures.stream
    (λ s is. c.wait_past.ensures.side s (first_list c.args.side) is)
