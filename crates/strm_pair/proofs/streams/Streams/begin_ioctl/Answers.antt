-- The queue of the head stays.
use Rattle.std.proofs.Common.{◌+◌, arith}
use Rattle.strm_types.specs.declared.slots.Slot.TheVariants.{Waiting}
use Rattle.strm_pair.specs.Pairs.{with_end}
use Rattle.strm_pair.proofs.Becoming.{head-becomes, next-becomes}
use Rattle.strm_pair.proofs.streams.Streams.begin_ioctl.Goals as goal

pub returns : goal.returns
returns c =
    let p = c.args.self.now in
    let r = c.get_mut.result.now in
    let is = next-becomes p (with_end c.args.side (record r { head = c.begin_ioctl.new.self }) p) _ (p.next_ioctl + 1) (omega arith)
    (head-becomes c.args.side p r c.get_mut.ensures.value c.begin_ioctl.new.self (λ h. record h { ioctl = Waiting p.next_ioctl c.args.command }) c.begin_ioctl.ensures.queue c.begin_ioctl.ensures.state) in
    record { state = is.state; held = is.held }
