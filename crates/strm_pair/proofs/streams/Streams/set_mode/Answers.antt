-- The queue of the head stays.
use Rattle.strm_types.specs.Heads.{with_mode}
use Rattle.strm_pair.proofs.Becoming.{head-becomes}
use Rattle.strm_pair.proofs.streams.Streams.set_mode.Goals as goal

pub returns : goal.returns
returns c = head-becomes c.args.side c.args.self.now c.get_mut.result.now c.get_mut.ensures.value c.set_mode.new.self (with_mode c.args.mode) c.set_mode.ensures.queue c.set_mode.ensures.mode
