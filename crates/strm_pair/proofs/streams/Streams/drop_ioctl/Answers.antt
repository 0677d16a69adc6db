-- The queue of the head stays.
use Rattle.strm_pair.proofs.Sides.{head-held}
use Rattle.strm_pair.proofs.streams.Streams.drop_ioctl.Goals as goal

pub returns-clause-held : goal.returns-clause-held
returns-clause-held c = λ s held. head-held s c.args.self.now c.args.side c.get_mut.result.now c.drop_ioctl.new.self c.get_mut.ensures.value c.drop_ioctl.ensures.queue held
