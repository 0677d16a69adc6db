use Rattle.std.proofs.Common.{◌≡◌}
use Rattle.std.specs.Prelude.{Some}
use Rattle.strm_handle.specs.Outcomes.{Stay}
use Rattle.strm_ends.specs.Calling.{CallsEnd, told_of}
use Rattle.strm_ends.proofs.AtMembers.{at_member}
use Rattle.strm_ends.proofs.calling.call.Goals as goal

pub returns : goal.returns
returns c =
    let before : c.args.handle.now.held.kept ≡ Some c.behind-member.inside.seat = cc (c.in-Some.ensures.taken, c.as_mut.ensures.value, c.behind-member.view_is) in
    let behind : c.put.new.self.held.kept ≡ Some c.call-outcome.new.self = c.put.ensures in
    at_member (Stay c.args.out.now c.call-outcome.new.out c.args.reply.now c.call-outcome.new.reply)
    (CallsEnd c.args.ask.now c.args.bytes.now (told_of c.args.out.now c.call-outcome.new.out c.args.reply.now c.call-outcome.new.reply))
    c.args.handle.now.held.kept c.put.new.self.held.kept c.behind-member.inside.seat c.call-outcome.new.self c.call-outcome.result c.number.result before
    behind c.number.ensures c.call-outcome.ensures
