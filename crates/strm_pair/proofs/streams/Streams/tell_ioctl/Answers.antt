-- The queue of the head stays.
use Rattle.strm_types.specs.Slots.{slot_behind}
use Rattle.strm_pair.proofs.Becoming.{head-becomes}
use Rattle.strm_pair.proofs.streams.Streams.tell_ioctl.Goals as goal

pub returns-clause-becomes : goal.returns-clause-becomes
returns-clause-becomes c =
    head-becomes c.args.side c.args.self.now c.get_mut.result.now c.get_mut.ensures.value c.tell_ioctl.new.self (λ h. record h { ioctl = slot_behind h.ioctl }) c.tell_ioctl.ensures.queue c.tell_ioctl.ensures.state
