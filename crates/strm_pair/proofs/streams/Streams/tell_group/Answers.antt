-- The queue of the head stays.
use Rattle.std.proofs.Common.{◌+◌, arith}
use Rattle.strm_types.specs.declared.slots.Slot.TheVariants.{Free}
use Rattle.strm_types.specs.JobControl.{group_behind}
use Rattle.strm_pair.specs.Pairs.{with_end}
use Rattle.strm_pair.proofs.Becoming.{head-becomes, next-becomes}
use Rattle.strm_pair.proofs.streams.Streams.tell_group.Goals as goal

pub returns-clause-becomes : goal.returns-clause-becomes
returns-clause-becomes c =
    let p = c.args.self.now in
    let r = c.get_mut.result.now in
    next-becomes p (with_end c.args.side (record r { head = c.tell_group.new.self }) p) _ (p.next_ioctl + 1) (omega arith)
    (head-becomes c.args.side p r c.get_mut.ensures.value c.tell_group.new.self (λ h. record h { group = group_behind c.args.command c.args.body.now h.group; ioctl = Free }) c.tell_group.ensures.queue c.tell_group.ensures.state)
