-- Two blocks of each kind are enough.
use Rattle.std.proofs.Common.{arith}
use Rattle.strm_head.proofs.Commands.{two-at-most}
use Rattle.strm_tests.proofs.head.heeds.makes.Goals as goal

pub make_ioctl-message-requires-clause-room_m : goal.make_ioctl-message-requires-clause-room_m
make_ioctl-message-requires-clause-room_m g c =
    let few = two-at-most c.args.body.now in
    let free = c.free_blocks-mblks.ensures.message_blocks in
    let some = c.if-mblks-lt2.false in
    omega arith

pub make_ioctl-message-requires-clause-room_d : goal.make_ioctl-message-requires-clause-room_d
make_ioctl-message-requires-clause-room_d g c =
    let few = two-at-most c.args.body.now in
    let free = c.free_blocks-mblks.ensures.data_blocks in
    let some = c.if-dblks-lt2.false in
    omega arith
